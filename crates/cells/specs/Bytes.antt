-- Lists of bytes.
use Rattle.std.specs.Prelude.{◌≡◌, refl, List, [], ◌∷◌, ℕ, ◌<◌, get_or, replicate}

-- every element is a byte
pub record IsBytes (bytes : List ℕ) : Type 0 where
  pub below : (i : ℕ) → get_or bytes i 0 < 256

-- so many zero bytes
unfoldable pub zeros : ℕ → List ℕ
zeros count = replicate count 0

-- four zero bytes
pub zero_bytes : ◌≡◌ {A = List ℕ} (zeros 4) (0x00 ∷ 0x00 ∷ 0x00 ∷ 0x00 ∷ [])
unfolding zeros
zero_bytes = refl
