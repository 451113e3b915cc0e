-- How far a page is written, and one record more.
use Rattle.std.specs.Prelude.{◌≡◌, Bool, true, false, cond, List, [], ◌∷◌, ◌++◌, ℕ, ◌+◌, ◌≤◌, leb, length, take, drop}
use Rattle.trees.specs.Entries.{Entry}
use Rattle.pages.specs.declared.record.Progress.{Progress}
use Rattle.pages.specs.Record.{record_of}

-- what is written so far, whether a record did not fit, and the buffer
pub record Written : Type 0 where
  pub records : ℕ
  pub used : ℕ
  pub full : Bool
  pub buffer : List ℕ

-- the code's progress with the buffer beside it
abbrev pub written_of : Progress → List ℕ → Written
written_of progress buffer = record { records = progress.records; used = progress.used; full = progress.full; buffer = buffer }

-- bytes in place of as many from a position on
unfoldable pub put_bytes : List ℕ → ℕ → List ℕ → List ℕ
put_bytes buffer at bytes = take at buffer ++ (bytes ++ drop (at + length bytes) buffer)

-- one record more, at the end of those written
abbrev pub with_record : Written → Entry → Written
with_record written entry =
    record {
      records = written.records + 1;
      used = written.used + length (record_of entry);
      full = false;
      buffer = put_bytes written.buffer written.used (record_of entry);
    }

-- the same where a record did not fit
abbrev pub stopped : Written → Written
stopped written = record { records = written.records; used = written.used; full = true; buffer = written.buffer }

-- one record more, if it fits and none before it failed to
unfoldable pub put_record : Written → Entry → Written
put_record written entry =
    let fits = leb (written.used + length (record_of entry)) (length written.buffer) in
    cond written.full written (cond fits (with_record written entry) (stopped written))

-- one record after the other
unfoldable pub put_records : Written → List Entry → Written
put_records written [] = written
put_records written (entry ∷ rest) = put_records (put_record written entry) rest

-- a page that goes on: no record failed to fit, and its numbers are within the buffer
pub record Open (progress : Progress) (buffer : List ℕ) : Type 0 where
  pub going : progress.full ≡ false
  pub counted : progress.records ≤ progress.used
  pub inside : progress.used ≤ length buffer

-- what a part of the walk does: it keeps so many characters of the path, and writes the records of its pairs
pub record Printed (at : ℕ) (path path' : List ℕ) (start : Written) (list : List Entry) (end : Written) : Type 0 where
  pub kept : take at path' ≡ take at path
  pub written : end ≡ put_records start list
