-- What a cell is used as is said by the word that leads to it and, for a prefix, by the byte at 04: no cell is clean for the zeros of
-- another use.
use mathlib.Core.Path.{◌≡◌, refl, sym, ◌∙◌}
use mathlib.Core.Logic.{◌≢◌}
use mathlib.Core.Bool.{cond}
use mathlib.Core.List.{List}
use native.Mathlib.Omega.{arith}
use Prim.Native.Nat.{ℕ}
use lib.Dec.{eqb}
use borrow.Author.Tests.{ne_eqb}
use Rattle.nodes.specs.Prefix.{prefix_offset}
use Rattle.updates.specs.Zeros.{Use, kind_of, part, Proper}
use Rattle.updates.specs.Zeros.Use.{chain_from, sparse_use, head_use, mid_use, end_use, prefix_use, embedded_chain, embedded_head}

-- by the part of a split that it is, the kind and the byte at 04
unfoldable use_of : ℕ → ℕ → ℕ → Use
use_of to kind offset =
    cond (eqb kind 0x1F)
    (cond (eqb offset 0xFF) prefix_use (cond (eqb offset 0x1C) embedded_head (embedded_chain offset)))
    (cond (eqb kind 0x1E) sparse_use (cond (eqb kind 0x1C) (cond (eqb to 0) head_use (cond (eqb to 1) mid_use end_use)) (chain_from kind)))

use_is : (role : Use) (s : List ℕ) → Proper role s → role ≡ use_of (part role) (kind_of role) (prefix_offset s)
unfolding use_of
use_is (chain_from place) s proper =
    let no_prefix : place ≢ 31 = omega arith in
    let no_sparse : place ≢ 30 = omega arith in
    let no_split : place ≢ 28 = omega arith in
    rw (ne_eqb place 31 no_prefix, ne_eqb place 30 no_sparse, ne_eqb place 28 no_split)
use_is sparse_use s proper = refl
use_is head_use s proper = refl
use_is mid_use s proper = refl
use_is end_use s proper = refl
use_is prefix_use s proper = rw proper
use_is (embedded_chain place) s proper =
    let no_link : place ≢ 255 = omega arith in
    let no_head : place ≢ 28 = omega arith in
    rw (proper.0, ne_eqb place 255 no_link, ne_eqb place 28 no_head)
use_is embedded_head s proper = rw proper

pub one_use : (role other : Use) (s : List ℕ) → Proper role s → Proper other s → part role ≡ part other → kind_of role ≡ kind_of other → role ≡ other
one_use role other s proper proper' parts kinds =
    use_is role s proper ∙ (λ i. use_of (parts i) (kinds i) (prefix_offset s)) ∙ sym (use_is other s proper')
