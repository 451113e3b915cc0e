-- 01: "A taken cell's meaningless bytes are zero". That this says something: a cell with one stray byte is not clean, and a block with
-- such a byte in a cell taken is none that an insertion may leave.
use mathlib.Core.Path.{◌≡◌, refl, subst}
use mathlib.Core.List.{List, ◌++◌}
use Prim.Native.Nat.{ℕ}
use native.Mathlib.Omega.{arith}
use lib.ListN.{get_or}
use Rattle.cells.specs.Bytes.{zeros}
use Rattle.cells.specs.Word.{word_at}
use Rattle.nodes.specs.Pointer.{word_to}
use Rattle.nodes.specs.Sparse.{sparse_count}
use Rattle.nodes.specs.Prefix.{prefix_offset}
use Rattle.nodes.specs.Written.{words, eight_words}
use Rattle.nodes.specs.Computing.{nodes_open}
use Rattle.updates.specs.Zeros.{Use, chain_from, sparse_use, head_use, prefix_use, embedded_chain, embedded_head, kind_of, part, Proper, Clean, Leads}
use Rattle.updates.proofs.Zeros.Uses.{one_use}
use Rattle.updates.proofs.Zeros.Junk.{chain_junk, sparse_junk, head_junk, prefix_junk, embedded_chain_junk, embedded_head_junk}
use Rattle.store.specs.TakenCells.{taken_bytes, CleanTaken}
use Rattle.store.specs.Computing.{calls_open}

-- sample A's cell with a byte at 1A, before its only character
abbrev stray_chain : List ℕ
stray_chain = eight_words 0 0 0 0 0 0 0x00000141 0xFFFFFFFF

-- a byte at 1A of it
chain_byte : get_or stray_chain 0x1A 0 ≡ 1
unfolding words
chain_byte = refl

stray_chain_lem : Clean (chain_from 0x1B) stray_chain → ⊥
stray_chain_lem clean = chain_junk stray_chain 0x1A (λ e. omega (arith, e, chain_byte)) 0x1B (omega arith) clean

-- sample F's cell with a byte at 1A, behind the characters of its two children
abbrev stray_sparse : List ℕ
stray_sparse = eight_words 0xFFFFFFFE 0x0000003A 0 0 0 0 0x41430100 0x00000006

sparse_byte : (get_or stray_sparse 0x1A 0 ≡ 1) × (sparse_count stray_sparse ≡ 2)
unfolding nodes_open
sparse_byte = (refl, refl)

stray_sparse_lem : Clean sparse_use stray_sparse → ⊥
stray_sparse_lem clean = sparse_junk stray_sparse 0x1A (λ e. omega (arith, e, sparse_byte.0)) (omega (arith, sparse_byte.1)) (omega arith) clean

-- a split head with a byte at 0F, before its words
abbrev stray_head : List ℕ
stray_head = eight_words 0 0 0 0x00000001 0x0000007C 0 0 0

head_byte : get_or stray_head 0x0F 0 ≡ 1
unfolding words
head_byte = refl

stray_head_lem : Clean head_use stray_head → ⊥
stray_head_lem clean = head_junk stray_head 0x0F (λ e. omega (arith, e, head_byte)) (omega arith) clean

-- sample H's prefix with a byte at 05 and at 1B: after FF and before the link
abbrev stray_prefix : ℕ → ℕ → List ℕ
stray_prefix ff behind = eight_words 0x00000005 ff 0 0 0 0 behind 0x0000003A

prefix_bytes_lem : (get_or (stray_prefix 0xFF010000 0) 0x05 0 ≡ 1) × (get_or (stray_prefix 0xFF000000 1) 0x1B 0 ≡ 1)
unfolding words
prefix_bytes_lem = (refl, refl)

stray_prefix_lem : (Clean prefix_use (stray_prefix 0xFF010000 0) → ⊥) × (Clean prefix_use (stray_prefix 0xFF000000 1) → ⊥)
stray_prefix_lem = (
  λ clean. prefix_junk (stray_prefix 0xFF010000 0) 0x05 (λ e. omega (arith, e, prefix_bytes_lem.0)) (omega arith) (omega arith) clean,
  λ clean. prefix_junk (stray_prefix 0xFF000000 1) 0x1B (λ e. omega (arith, e, prefix_bytes_lem.1)) (omega arith) (omega arith) clean,
)

-- a prefix embedded before a chain at 1A, with a byte at 05 and at 19: after the byte at 04 and before the first character
abbrev stray_embedded : ℕ → ℕ → List ℕ
stray_embedded offset run = eight_words 0x00000005 offset 0 0 0 0 run 0xFFFFFFFF

embedded_bytes : (get_or (stray_embedded 0x1A010000 0x00004841) 0x05 0 ≡ 1) × (get_or (stray_embedded 0x1A000000 0x00014841) 0x19 0 ≡ 1)
unfolding words
embedded_bytes = (refl, refl)

stray_embedded_lem : (Clean (embedded_chain 0x1A) (stray_embedded 0x1A010000 0x00004841) → ⊥)
    × (Clean (embedded_chain 0x1A) (stray_embedded 0x1A000000 0x00014841) → ⊥)
stray_embedded_lem = (
  λ clean. embedded_chain_junk (stray_embedded 0x1A010000 0x00004841) 0x05 (λ e. omega (arith, e, embedded_bytes.0)) 0x1A (omega arith) (omega arith) clean,
  λ clean. embedded_chain_junk (stray_embedded 0x1A000000 0x00014841) 0x19 (λ e. omega (arith, e, embedded_bytes.1)) 0x1A (omega arith) (omega arith) clean,
)

-- one embedded before a split head, with a byte at 0F
abbrev stray_before_head : List ℕ
stray_before_head = eight_words 0x00000005 0x1C000000 0 0x00000001 0x0000007C 0 0 0

before_head_byte : get_or stray_before_head 0x0F 0 ≡ 1
unfolding words
before_head_byte = refl

stray_before_head_lem : Clean embedded_head stray_before_head → ⊥
stray_before_head_lem clean = embedded_head_junk stray_before_head 0x0F (λ e. omega (arith, e, before_head_byte)) (omega arith) (omega arith) clean

-- none of them is clean
pub stray_refuted :
    (Clean (chain_from 0x1B) stray_chain → ⊥)
    × (Clean sparse_use stray_sparse → ⊥)
    × (Clean head_use stray_head → ⊥)
    × (Clean prefix_use (stray_prefix 0xFF010000 0) → ⊥)
    × (Clean prefix_use (stray_prefix 0xFF000000 1) → ⊥)
    × (Clean (embedded_chain 0x1A) (stray_embedded 0x1A010000 0x00004841) → ⊥)
    × (Clean (embedded_chain 0x1A) (stray_embedded 0x1A000000 0x00014841) → ⊥)
    × (Clean embedded_head stray_before_head → ⊥)
stray_refuted =
    (stray_chain_lem, stray_sparse_lem, stray_head_lem, stray_prefix_lem.0, stray_prefix_lem.1, stray_embedded_lem.0, stray_embedded_lem.1, stray_before_head_lem)

-- a cell that is not clean for one use is clean for no other to which the same word leads
no_other : (role other : Use) (s : List ℕ) → (Clean other s → ⊥) → Proper other s → part role ≡ part other → kind_of role ≡ kind_of other → Clean role s → ⊥
no_other role other s stray proper parts kinds clean =
    stray (subst (λ (u : Use). Clean u s) (one_use role other s clean.proper proper parts kinds) clean)

-- a fresh block of four cells, and sample A's block with the stray byte: the word 0000003B leads to a chain from 1B on in cell 1
abbrev fresh : List ℕ
fresh = zeros 96 ++ eight_words 0 0 0 0 0x00000000 0x00000004 0x00000000 0x00000001

abbrev stray_block : List ℕ
stray_block = zeros 32 ++ stray_chain ++ zeros 32 ++ eight_words 0x0000003B 0 0 0 0x00000000 0x00000004 0x00000000 0x00000001

by_root : (role : Use) → Clean role stray_chain → part role ≡ 0 → 0x3B ≡ word_to 1 (kind_of role) → ⊥
by_root role clean node e = no_other role (chain_from 0x1B) stray_chain stray_chain_lem (omega arith) node (omega (arith, e)) clean

pub stray_block_refuted : CleanTaken fresh stray_block 1 → ⊥
unfolding calls_open taken_bytes
stray_block_refuted taken = by_root taken.0 taken.1 taken.2 taken.3

-- the same of an older cell (2), below a chain (3): the root word 0000007B leads to that chain, and the word 0000005F in it to a prefix
abbrev over_prefix : List ℕ
over_prefix = eight_words 0 0 0 0 0 0 0x00000043 0x0000005F

over_word : word_at over_prefix 0x1C ≡ 0x5F
unfolding nodes_open
over_word = refl

none_below : (other : Use) (s : List ℕ) → (Clean other s → ⊥) → Proper other s → part other ≡ 0 → kind_of other ≡ 0x1F
    → (role below : Use) → Clean role over_prefix → part role ≡ 0 → 0x7B ≡ word_to 3 (kind_of role) → Clean below s
    → Leads role over_prefix (part below) (word_to 2 (kind_of below)) → ⊥
none_below other s stray proper node prefix role below over top e clean leads =
    let chain : role ≡ chain_from 0x1B = one_use role (chain_from 0x1B) over_prefix over.proper (omega arith) top (omega (arith, e)) in
    let word : Leads (chain_from 0x1B) over_prefix (part below) (word_to 2 (kind_of below)) =
    subst (λ (u : Use). Leads u over_prefix (part below) (word_to 2 (kind_of below))) chain leads in
    no_other below other s stray proper (omega (arith, word.0, node)) (omega (arith, word.1, over_word, prefix)) clean

-- a block of five cells with a chain in its first, and with two more cells that an insertion took
abbrev with_one : ℕ → ℕ → ℕ → ℕ → List ℕ
with_one edition root run end =
    zeros 32 ++ eight_words 0 0 0 0 0 0 run end ++ zeros 64 ++ eight_words root 0 0 0 0x00000000 0x00000005 0x00000000 edition

abbrev with_three : ℕ → ℕ → ℕ → List ℕ → List ℕ
with_three edition run end second =
    zeros 32 ++ eight_words 0 0 0 0 0 0 run end ++ second ++ over_prefix ++ eight_words 0x0000007B 0 0 0 0x00000000 0x00000005 0x00000000 edition

alone : prefix_offset (stray_prefix 0xFF010000 0) ≡ 0xFF
unfolding words
alone = refl

-- sample E's run, and sample H's insertion with the stray byte
pub stray_older_refuted : CleanTaken (with_one 1 0x00000039 0x00434841 0xFFFFFFFF) (with_three 1 0x00434841 0xFFFFFFFF (stray_prefix 0xFF010000 0)) 2 → ⊥
unfolding calls_open taken_bytes
stray_older_refuted taken =
    let below = taken.4 in
    none_below prefix_use (stray_prefix 0xFF010000 0) stray_prefix_lem.0 alone refl refl taken.0 below.0 taken.1 taken.2 taken.3 below.1 below.2

offset : prefix_offset (stray_embedded 0x1A010000 0x00004841) ≡ 0x1A
unfolding words
offset = refl

-- in edition 2 the key 43 of 5, and the insertion of 43 48 41, which embeds that value before the chain 48 41, with the stray byte
pub stray_embedded_refuted :
    CleanTaken (with_one 2 0x0000003B 0x00000043 0xFFFFFFFA) (with_three 2 0x00000043 0xFFFFFFFA (stray_embedded 0x1A010000 0x00004841)) 2 → ⊥
unfolding calls_open taken_bytes
stray_embedded_refuted taken =
    let below = taken.4 in
    none_below (embedded_chain 0x1A) (stray_embedded 0x1A010000 0x00004841) stray_embedded_lem.0 (offset, omega arith, omega arith) refl refl
    taken.0 below.0 taken.1 taken.2 taken.3 below.1 below.2
