-- What judging a change tells: the first of the answers that come before it, or what it goes on with.
use Rattle.std.specs.Prelude.{◌≡◌, Result, Ok, Err, false, List, [], ◌∷◌, ◌++◌, ℕ}
use Rattle.nodes.specs.Layout.{Layout}
use Rattle.blocks.specs.Trailer.{root_word}
use Rattle.blocks.specs.Refusal.{Refusal, refusal, first_refusal, bad_key, bad_new_key, bad_value}
use Rattle.blocks.specs.Read.{block_refusals}
use Rattle.blocks.specs.Answers.{refusal_number}
use Rattle.blocks.specs.declared.answer.Refusal as declared
use Rattle.store.specs.Code.Changeable.{Changeable}
use Rattle.store.specs.declared.inserting.Ready.{Ready}

-- the answers 1 to 3, which come first for every change
abbrev pub asked_of_change : List ℕ → List ℕ → List Refusal
asked_of_change block key = block_refusals block ++ (refusal 3 (bad_key key) ∷ [])

-- what a change that none of them refuses goes on with
pub record ChangeReady (block numbers key : List ℕ) (ready : Ready) : Type 0 where
  pub changeable : Changeable ready.layout block numbers ready.free key
  pub root_is : ready.root ≡ root_word ready.layout block
  pub good_key : bad_key key ≡ false

-- a block and a key judged, and the free cells listed where none of these answers is given
abbrev pub ChangeJudged : List ℕ → List ℕ → List ℕ → Result Ready declared.Refusal → Type 0
ChangeJudged block numbers key (Ok ready) = ChangeReady block numbers key ready
ChangeJudged block numbers key (Err why) = first_refusal (asked_of_change block key) ≡ refusal_number why

-- 01's answers 1 to 4 for an insertion
abbrev pub asked_first : List ℕ → List ℕ → ℕ → List Refusal
asked_first block key value = block_refusals block ++ (refusal 3 (bad_new_key key) ∷ refusal 4 (bad_value value) ∷ [])

-- what an insertion that none of them refuses goes on with
pub record Insertable (layout : Layout) (block numbers : List ℕ) (free : ℕ) (key : List ℕ) (value root : ℕ) : Type 0 where
  pub changeable : Changeable layout block numbers free key
  pub root_is : root ≡ root_word layout block
  pub good_key : bad_new_key key ≡ false
  pub good_value : bad_value value ≡ false

-- a block, a key and a value judged, and the free cells listed where none of these answers is given
abbrev pub JudgedAs : List ℕ → List ℕ → List ℕ → ℕ → Result Ready declared.Refusal → Type 0
JudgedAs block numbers key value (Err why) = first_refusal (asked_first block key value) ≡ refusal_number why
JudgedAs block numbers key value (Ok ready) = Insertable ready.layout block numbers ready.free key value ready.root
