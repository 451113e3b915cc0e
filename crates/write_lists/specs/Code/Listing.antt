-- What the code does with a build that stands in the stage.
use Rattle.std.specs.Prelude.{Bool, cond, List, ℕ, ◌*◌, ltb, length, get_or}
use Rattle.nodes.specs.Layout.{Layout}
use Rattle.staging.specs.declared.stage.BuildState.{BuildState}
use Rattle.updates.specs.Code.Staged.{built_of}
use Rattle.store.specs.Committed.{commit_writes}
use Rattle.write_lists.specs.Records.{with_records}
use Rattle.write_lists.specs.WriteList.{WriteList, records_for, refused_list}

-- 7 where the build does not fit, 15 where its list does not, and else the list of its writes
unfoldable pub staged_list : Layout → List ℕ → BuildState → List ℕ → Bool → List ℕ → WriteList
staged_list layout numbers made stage fits list =
    let records = records_for made.count in
    let done : WriteList = record { answer = 0; records = records; list = with_records list 0 (commit_writes layout (λ i. get_or numbers i 0) (built_of made stage)) } in
    cond fits (cond (ltb (length list) (8 * records)) (refused_list 15 list) done) (refused_list 7 list)
