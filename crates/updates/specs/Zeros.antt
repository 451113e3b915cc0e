-- 01: "A taken cell's meaningless bytes are zero". What each cell of a build is used as, by the word that leads to it, and that
-- the bytes which have no meaning for that use are zero.
use Rattle.std.specs.Prelude.{◌≡◌, ◌⊎◌, true, false, List, [], ◌∷◌, ℕ, ◌≤◌, ◌<◌, length, get_or}
use Rattle.cells.specs.Word.{word_at}
use Rattle.nodes.specs.Pointer.{word_to}
use Rattle.nodes.specs.Sparse.{sparse_word, sparse_count}
use Rattle.nodes.specs.Split.{head_word, branch_word}
use Rattle.nodes.specs.Prefix.{prefix_offset}
use Rattle.nodes.specs.Meaning.{InChain, InSparse, InHead, InBranch, InPrefix}
use Rattle.updates.specs.Built.{Built}

-- what a cell is used as
pub data Use : Type 0 where
  chain_from : ℕ → Use  -- the place of its first character
  sparse_use head_use mid_use end_use prefix_use : Use
  embedded_chain : ℕ → Use  -- the same with a prefix embedded before it
  embedded_head : Use

-- the kind in the word that leads to it
abbrev pub kind_of : Use → ℕ
kind_of (chain_from place) = place
kind_of sparse_use = 0x1E
kind_of head_use = 0x1C
kind_of mid_use = 0x1C
kind_of end_use = 0x1C
kind_of prefix_use = 0x1F
kind_of (embedded_chain place) = 0x1F
kind_of embedded_head = 0x1F

-- whether it is a node (0), a split's mid (1) or an end (2)
abbrev pub part : Use → ℕ
part (chain_from place) = 0
part sparse_use = 0
part head_use = 0
part mid_use = 1
part end_use = 2
part prefix_use = 0
part (embedded_chain place) = 0
part embedded_head = 0

-- what the words in it lead to: from a head to mids, from a mid to ends, else to nodes
abbrev pub part_below : Use → ℕ
part_below (chain_from place) = 0
part_below sparse_use = 0
part_below head_use = 1
part_below mid_use = 2
part_below end_use = 0
part_below prefix_use = 0
part_below (embedded_chain place) = 0
part_below embedded_head = 1

-- the bytes that have a meaning
abbrev pub Meant : Use → List ℕ → ℕ → Type 0
Meant (chain_from place) bytes i = InChain place i
Meant sparse_use bytes i = InSparse (sparse_count bytes) i
Meant head_use bytes i = InHead i
Meant mid_use bytes i = InBranch i
Meant end_use bytes i = InBranch i
Meant prefix_use bytes i = InPrefix true i
Meant (embedded_chain place) bytes i = InPrefix false i ⊎ InChain place i
Meant embedded_head bytes i = InPrefix false i ⊎ InHead i

-- a chain begins before the word at its end; the byte at 04 of a prefix says which of the three uses it is
abbrev pub Proper : Use → List ℕ → Type 0
Proper (chain_from place) bytes = place < 0x1C
Proper sparse_use bytes = Unit {0}
Proper head_use bytes = Unit {0}
Proper mid_use bytes = Unit {0}
Proper end_use bytes = Unit {0}
Proper prefix_use bytes = prefix_offset bytes ≡ 0xFF
Proper (embedded_chain place) bytes = (prefix_offset bytes ≡ place) × (0x05 ≤ place) × (place < 0x1C)
Proper embedded_head bytes = prefix_offset bytes ≡ 0x1C

-- a word that leads from it stands in its bytes
abbrev pub Holds : Use → List ℕ → ℕ → Type 0
Holds (chain_from place) bytes word = word_at bytes 0x1C ≡ word
Holds sparse_use bytes word = (p : ℕ) × (p < sparse_count bytes) × (sparse_word bytes p ≡ word)
Holds head_use bytes word = (j : ℕ) × (j < 4) × (head_word bytes j ≡ word)
Holds mid_use bytes word = (j : ℕ) × (j < 8) × (branch_word bytes j ≡ word)
Holds end_use bytes word = (j : ℕ) × (j < 8) × (branch_word bytes j ≡ word)
Holds prefix_use bytes word = word_at bytes 0x1C ≡ word
Holds (embedded_chain place) bytes word = word_at bytes 0x1C ≡ word
Holds embedded_head bytes word = (j : ℕ) × (j < 4) × (head_word bytes j ≡ word)

-- the bytes of a cell used so: those with no meaning are zero
pub record Clean (role : Use) (bytes : List ℕ) : Type 0 where
  pub proper : Proper role bytes
  pub zeros : (i : ℕ) → i < 32 → (Meant role bytes i → ⊥) → get_or bytes i 0 ≡ 0

-- a word that leads from a cell used so to a node, a mid or an end
abbrev pub Leads : Use → List ℕ → ℕ → ℕ → Type 0
Leads role bytes to word = (to ≡ part_below role) × Holds role bytes word

-- cells allocated, newest first: each is clean for the use of which a word leads to it that is known, or stands in a newer one
abbrev pub EachClean : (ℕ → ℕ) → (ℕ → ℕ → Type 0) → List (List ℕ) → Type 0
EachClean number Known [] = Unit {0}
EachClean number Known (bytes ∷ older) =
    (role : Use) × Clean role bytes × Known (part role) (word_to (number (length older)) (kind_of role))
    × EachClean number (λ to word. Leads role bytes to word ⊎ Known to word) older

-- the cells of a build: a word leads to the newest as to a node, and to each other from a newer one
abbrev pub AllClean : (ℕ → ℕ) → ℕ → List (List ℕ) → Type 0
AllClean number word [] = Unit {0}
AllClean number word (bytes ∷ older) =
    (role : Use) × Clean role bytes × (part role ≡ 0) × (word ≡ word_to (number (length older)) (kind_of role))
    × EachClean number (Leads role bytes) older

-- the same of a build
abbrev pub CleanBuild : (ℕ → ℕ) → Built → Type 0
CleanBuild number b = AllClean number b.word b.cells
