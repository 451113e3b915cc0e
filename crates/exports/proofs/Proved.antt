-- What is proved of the calls told in numbers: a page in a buffer whose bytes 32 bits can count is the page itself.
use mathlib.Core.Path.{◌≡◌}
use mathlib.Core.List.{List, []}
use Prim.Native.Nat.{ℕ, ◌≤◌}
use lib.ListN.{length}
use Rattle.pages.specs.Page.{page}
use Rattle.exports.specs.PageNumbers.{numbers_of, page_numbers}
use Rattle.exports.proofs.PageSteps as steps

pub page_counted : (b key buffer : List ℕ) → length buffer ≤ 4294967295 → page_numbers b key buffer ≡ numbers_of (page b key buffer) []
page_counted = steps.counted_whole
