-- Laws of a walk over the roots of a block, each of which is judged with a stamp of its own.
use mathlib.Core.Path.{◌≡◌, refl, sym, ap, ◌∙◌, subst}
use mathlib.Core.Logic.{◌≢◌}
use mathlib.Core.Bool.{Bool, true, false, ◌&&◌}
use mathlib.Core.List.{List, [], ◌∷◌}
use mathlib.Core.Option.{Option, none, some, bind}
use Prim.Native.Nat.{ℕ, suc, ◌+◌, ◌-◌, ◌≤◌, ◌<◌}
use native.Mathlib.Decide.{dec_le}
use native.Mathlib.Omega.{arith}
use lib.ListN.{length, get_or}
use Rattle.cells.specs.Bytes.{zeros}
use Rattle.cells.specs.Memory.{memory_of}
use Rattle.cells.specs.Occurrences.{occurrences, all}
use Rattle.cells.proofs.Choice.{never, bound, absurd_false}
use Rattle.cells.proofs.Words.{zeros-length, zeros_byte}
use Rattle.nodes.specs.Layout.{Layout, usable, key_limit, cell_limit}
use Rattle.nodes.specs.Pointer.{pointer}
use Rattle.nodes.proofs.Pointers.{usable_inside}
use Rattle.trees.specs.Root.{is_root, root_tree, once_visited, valid_root, cells_of, root_cells}
use Rattle.trees.specs.Code.Visit.{stamp_each, visit, VisitAnswer}
use Rattle.trees.proofs.Usable.{tree-usable}
use Rattle.trees.proofs.Validation.Joins.{bind_of}
use Rattle.trees.proofs.Validation.Judging.{visit_empty, judged_same, judged_empty}
use Rattle.trees.proofs.Validation.Stamping.{Inside, StampedOnce, stamped_once, distinct_stamped, stamp_each_refused, stamp_each-length}
use Rattle.blocks.specs.Trailer.{root_word, slots, slot_word, in_use, valid_trailer}
use Rattle.blocks.specs.Sound.{slot_roots, roots, sound_with, reached_from, reachable}
use Rattle.blocks.specs.Code.Stamps.{slot_tree, Validated}
use Rattle.blocks.proofs.Roots.{root_tree_lem, not_root, used_roots, idle_roots, reached_cons, reached_none}

-- the cells found below a root have a place in the array
pub root_inside : (layout : Layout) (b : List ℕ) (word : ℕ) (cs stamps : List ℕ) → layout.cells ≤ length stamps
    → root_tree layout (memory_of b) word ≡ some cs → Inside cs stamps
root_inside layout b word cs stamps room found = go (is_root (pointer layout word)) refl
  where
    go : (t : Bool) → is_root (pointer layout word) ≡ t → Inside cs stamps
    go true root = λ c h.
        let at : usable layout c ≡ true = tree-usable layout (memory_of b) key_limit word cs (sym (root_tree_lem layout (memory_of b) word root) ∙ found) c h in
        omega (arith, usable_inside layout c at)
    go false other = never (sym (not_root layout (memory_of b) word other) ∙ found)

-- what a judgement of one root says of it
module _ (layout : Layout) (b : List ℕ) (word stamp : ℕ) (before after : List ℕ) (passed : Bool) (room : layout.cells ≤ length before)
    (fresh : (c : ℕ) → get_or before c 0 < stamp) (judged : VisitAnswer (root_tree layout (memory_of b) word) stamp before after passed) where
  unstamped : (c : ℕ) → c < length before → get_or before c 0 ≢ stamp
  unstamped c inside e = omega (arith, fresh c)

  pub root_passed : passed ≡ true → (valid_root layout (memory_of b) word ≡ true) × StampedOnce stamp (root_cells layout (memory_of b) word) before after
      × (length after ≡ length before)
  unfolding once_visited cells_of
  root_passed t =
      let found = bound (root_tree layout (memory_of b) word) (λ cs. stamp_each stamp cs before) (judged.accepted t) in
      let inside : Inside found.0 before = root_inside layout b word found.0 before room found.1 in
      let cells : root_cells layout (memory_of b) word ≡ found.0 = ap cells_of found.1 in (
        ap once_visited found.1 ∙ distinct_stamped stamp found.0 before inside unstamped after found.2,
        subst (λ (l : List ℕ). StampedOnce stamp l before after) (sym cells) (stamped_once stamp found.0 before after inside found.2),
        stamp_each-length stamp found.0 before after found.2,
      )

  pub root_failed : passed ≡ false → valid_root layout (memory_of b) word ≡ false
  unfolding once_visited
  root_failed f = go (root_tree layout (memory_of b) word) refl
    where
      go : (o : Option (List ℕ)) → root_tree layout (memory_of b) word ≡ o → valid_root layout (memory_of b) word ≡ false
      go none e = ap once_visited e
      go (some cs) e =
          ap once_visited e
          ∙ stamp_each_refused stamp cs before (root_inside layout b word cs before room e) unstamped
          (sym (bind_of cs (λ ds. stamp_each stamp ds before)) ∙ ap (λ o. bind o (λ ds. stamp_each stamp ds before)) (sym e) ∙ judged.refused f)

-- the roots before are valid and have stamps below the next one; those left decide
pub record Walked (layout : Layout) (b : List ℕ) (left : List ℕ) (stamp : ℕ) (stamps : List ℕ) : Type 0 where
  pub size : length stamps ≡ cell_limit
  pub verdict : all (valid_root layout (memory_of b)) (roots layout b) ≡ all (valid_root layout (memory_of b)) left
  pub clear : (c : ℕ) → get_or stamps c 0 ≡ 0 → occurrences c (reached_from layout (memory_of b) left) ≡ 0 → occurrences c (reachable layout b) ≡ 0
  pub unreached : (c : ℕ) → occurrences c (reachable layout b) ≡ 0 → (get_or stamps c 0 ≡ 0) × (occurrences c (reached_from layout (memory_of b) left) ≡ 0)
  pub fresh : (c : ℕ) → get_or stamps c 0 < stamp

module _ (layout : Layout) (b : List ℕ) where
  pub walk_starts : (stamps : List ℕ) → stamps ≡ zeros cell_limit → Walked layout b (root_word layout b ∷ slot_roots layout b (slots layout) 1) 1 stamps
  unfolding roots
  walk_starts stamps e =
      let empty : (c : ℕ) → get_or stamps c 0 ≡ 0 = λ c. ap (λ (l : List ℕ). get_or l c 0) e ∙ zeros_byte cell_limit c in
      record {
        size = ap length e ∙ zeros-length cell_limit;
        verdict = refl;
        clear = λ c z away. away;
        unreached = λ c away. (empty c, away);
        fresh = λ c. omega (arith, empty c);
      }

  -- no cell was visited
  pub walk_skips : (left : List ℕ) (stamp : ℕ) (stamps : List ℕ) → Walked layout b left stamp stamps → Walked layout b left (stamp + 1) stamps
  walk_skips left stamp stamps w =
      record { size = w.size; verdict = w.verdict; clear = w.clear; unreached = w.unreached; fresh = λ c. omega (arith, w.fresh c) }

  module _ (word : ℕ) (left : List ℕ) (stamp : ℕ) (before after : List ℕ) (passed : Bool) (room : layout.cells ≤ cell_limit)
      (walked : Walked layout b (word ∷ left) stamp before) (judged : VisitAnswer (root_tree layout (memory_of b) word) stamp before after passed) where
    inside : layout.cells ≤ length before
    inside = omega (arith, walked.size)

    pub walk_fails : passed ≡ false → all (valid_root layout (memory_of b)) (roots layout b) ≡ false
    unfolding all
    walk_fails f =
        walked.verdict ∙ ap (λ (t : Bool). t && all (valid_root layout (memory_of b)) left) (root_failed layout b word stamp before after passed inside walked.fresh judged f)

    -- a cell of the root has the stamp, and any other the one that it had
    module _ (low : 1 ≤ stamp) (p : StampedOnce stamp (root_cells layout (memory_of b) word) before after) (c : ℕ) where
      cut : occurrences c (reached_from layout (memory_of b) (word ∷ left))
          ≡ occurrences c (root_cells layout (memory_of b) word) + occurrences c (reached_from layout (memory_of b) left)
      cut = reached_cons layout b c word left

      goes_clear : get_or after c 0 ≡ 0 → occurrences c (reached_from layout (memory_of b) left) ≡ 0 → occurrences c (reachable layout b) ≡ 0
      goes_clear z later = elim (dec_le 1 (occurrences c (root_cells layout (memory_of b) word))) [
        | yes h ↦ absurd (omega (arith, p.stamped c h, z, low))
        | no h ↦
            let outside : occurrences c (root_cells layout (memory_of b) word) ≡ 0 = omega arith in
            walked.clear c (sym (p.others c outside) ∙ z) (omega (arith, cut))
      ]

      goes_unreached : occurrences c (reachable layout b) ≡ 0 → (get_or after c 0 ≡ 0) × (occurrences c (reached_from layout (memory_of b) left) ≡ 0)
      goes_unreached away =
          let was = walked.unreached c away in
          let outside : occurrences c (root_cells layout (memory_of b) word) ≡ 0 = omega (arith, cut, was.1) in
          (p.others c outside ∙ was.0, omega (arith, cut, was.1))

      goes_fresh : get_or after c 0 < stamp + 1
      goes_fresh = elim (dec_le 1 (occurrences c (root_cells layout (memory_of b) word))) [
        | yes h ↦ omega (arith, p.stamped c h)
        | no h ↦ omega (arith, p.others c (omega arith), walked.fresh c)
      ]

    pub walk_goes_on : 1 ≤ stamp → passed ≡ true → Walked layout b left (stamp + 1) after
    unfolding all
    walk_goes_on low t =
        let r = root_passed layout b word stamp before after passed inside walked.fresh judged t in
        record {
          size = r.2 ∙ walked.size;
          verdict = walked.verdict ∙ ap (λ (t : Bool). t && all (valid_root layout (memory_of b)) left) r.0;
          clear = goes_clear low r.1;
          unreached = goes_unreached low r.1;
          fresh = goes_fresh low r.1;
        }

-- the first root
module _ (layout : Layout) (b : List ℕ) (word : ℕ) (stamps after : List ℕ) (passed : Bool) (room : layout.cells ≤ cell_limit)
    (is : word ≡ root_word layout b) (empty : stamps ≡ zeros cell_limit) (judged : VisitAnswer (root_tree layout (memory_of b) word) 1 stamps after passed) where
  first_walk : Walked layout b (word ∷ slot_roots layout b (slots layout) 1) 1 stamps
  first_walk = subst (λ (w : ℕ). Walked layout b (w ∷ slot_roots layout b (slots layout) 1) 1 stamps) (sym is) (walk_starts layout b stamps empty)

  pub first_fails : passed ≡ false → all (valid_root layout (memory_of b)) (roots layout b) ≡ false
  first_fails = walk_fails layout b word (slot_roots layout b (slots layout) 1) 1 stamps after passed room first_walk judged

  pub first_goes_on : (count : ℕ) → count ≡ slots layout → passed ≡ true → Walked layout b (slot_roots layout b (count - 0) 1) 2 after
  first_goes_on count e t =
      let left : slots layout ≡ count - 0 = omega arith in
      subst (λ (n : ℕ). Walked layout b (slot_roots layout b n 1) 2 after) left
      (walk_goes_on layout b word (slot_roots layout b (slots layout) 1) 1 stamps after passed room first_walk judged (omega arith) t)

-- one slot more
module _ (layout : Layout) (b : List ℕ) where
  pub slot_unused : (slot stamp : ℕ) (stamps : List ℕ) → in_use layout b slot ≡ false → VisitAnswer (slot_tree layout b slot) stamp stamps stamps true
  unfolding slot_tree
  slot_unused slot stamp stamps off =
      let none_there : slot_tree layout b slot ≡ some [] = rw off in
      judged_empty (slot_tree layout b slot) stamp stamps none_there

  pub slot_used : (slot word stamp : ℕ) (before after : List ℕ) (passed : Bool) → in_use layout b slot ≡ true → word ≡ slot_word layout b slot
      → VisitAnswer (root_tree layout (memory_of b) word) stamp before after passed → VisitAnswer (slot_tree layout b slot) stamp before after passed
  unfolding slot_tree
  slot_used slot word stamp before after passed on e judged =
      let cells : slot_tree layout b slot ≡ root_tree layout (memory_of b) word = rw (on, e) in
      judged_same (slot_tree layout b slot) stamp before after (root_tree layout (memory_of b) word) passed cells judged

  module _ (left rest slot stamp : ℕ) (before after : List ℕ) (passed : Bool) (room : layout.cells ≤ cell_limit) (more : left ≡ rest + 1)
      (walked : Walked layout b (slot_roots layout b left slot) stamp before) (judged : VisitAnswer (slot_tree layout b slot) stamp before after passed) where
    one_more : left ≡ suc rest
    one_more = omega arith

    used_walk : in_use layout b slot ≡ true → Walked layout b (slot_word layout b slot ∷ slot_roots layout b rest (slot + 1)) stamp before
    used_walk on = subst (λ (l : List ℕ). Walked layout b l stamp before) (ap (λ (n : ℕ). slot_roots layout b n slot) one_more ∙ used_roots layout b rest slot on) walked

    idle_walk : in_use layout b slot ≡ false → Walked layout b (slot_roots layout b rest (slot + 1)) stamp before
    idle_walk off = subst (λ (l : List ℕ). Walked layout b l stamp before) (ap (λ (n : ℕ). slot_roots layout b n slot) one_more ∙ idle_roots layout b rest slot off) walked

    used_judged : in_use layout b slot ≡ true → VisitAnswer (root_tree layout (memory_of b) (slot_word layout b slot)) stamp before after passed
    unfolding slot_tree
    used_judged on =
        let cells : root_tree layout (memory_of b) (slot_word layout b slot) ≡ slot_tree layout b slot = rw on in
        judged_same (root_tree layout (memory_of b) (slot_word layout b slot)) stamp before after (slot_tree layout b slot) passed cells judged

    idle_visit : in_use layout b slot ≡ false → visit stamp (slot_tree layout b slot) before ≡ some before
    unfolding slot_tree
    idle_visit off =
        let none_there : slot_tree layout b slot ≡ some [] = rw off in
        ap (λ o. visit stamp o before) none_there ∙ visit_empty stamp before

    pub slot_fails : passed ≡ false → all (valid_root layout (memory_of b)) (roots layout b) ≡ false
    slot_fails f = go (in_use layout b slot) refl
      where
        go : (t : Bool) → in_use layout b slot ≡ t → all (valid_root layout (memory_of b)) (roots layout b) ≡ false
        go true on = walk_fails layout b (slot_word layout b slot) (slot_roots layout b rest (slot + 1)) stamp before after passed room (used_walk on) (used_judged on) f
        go false off = never (sym (judged.refused f) ∙ idle_visit off)

    pub slot_goes_on : 1 ≤ stamp → passed ≡ true → Walked layout b (slot_roots layout b rest (slot + 1)) (stamp + 1) after
    slot_goes_on low t = go (in_use layout b slot) refl
      where
        go : (s : Bool) → in_use layout b slot ≡ s → Walked layout b (slot_roots layout b rest (slot + 1)) (stamp + 1) after
        go true on =
            walk_goes_on layout b (slot_word layout b slot) (slot_roots layout b rest (slot + 1)) stamp before after passed room (used_walk on) (used_judged on) low t
        go false off =
            let same : before ≡ after = let e : some before ≡ some after = sym (idle_visit off) ∙ judged.accepted t in cc in
            subst (λ (l : List ℕ). Walked layout b (slot_roots layout b rest (slot + 1)) (stamp + 1) l) same
            (walk_skips layout b (slot_roots layout b rest (slot + 1)) stamp before (idle_walk off))

-- the verdict
module _ (layout : Layout) (b stamps : List ℕ) where
  pub sound_trailer : valid_trailer layout b ≡ false → Validated layout b stamps false
  unfolding sound_with
  sound_trailer fails =
      record {
        verdict = sym (ap (λ (t : Bool). t && all (valid_root layout (memory_of b)) (roots layout b)) fails);
        stamped = λ t. absurd_false t;
      }

  pub sound_fails : valid_trailer layout b ≡ true → all (valid_root layout (memory_of b)) (roots layout b) ≡ false → Validated layout b stamps false
  unfolding sound_with
  sound_fails valid fails =
      record {
        verdict = sym (ap (λ (t : Bool). t && all (valid_root layout (memory_of b)) (roots layout b)) valid ∙ fails);
        stamped = λ t. absurd_false t;
      }

  pub sound_holds : (left slot stamp : ℕ) → valid_trailer layout b ≡ true → left ≡ 0 → Walked layout b (slot_roots layout b left slot) stamp stamps
      → Validated layout b stamps true
  unfolding sound_with slot_roots all
  sound_holds left slot stamp valid ends walked =
      let done : Walked layout b [] stamp stamps = subst (λ (n : ℕ). Walked layout b (slot_roots layout b n slot) stamp stamps) ends walked in
      record {
        verdict = sym (ap (λ (t : Bool). t && all (valid_root layout (memory_of b)) (roots layout b)) valid ∙ done.verdict);
        stamped = λ t. record {
          clear = λ c inside z. done.clear c z (reached_none layout b c);
          unreached = λ c inside away. (done.unreached c away).0;
        };
      }
