-- What a computed equation about pages unfolds, in the way of `blocks/Computing`.
use Rattle.blocks.specs.Computing.{next_open}
use Rattle.cells.specs.Word.{word_at}
use Rattle.pages.specs.Record.{records_of, pairs_in}
use Rattle.pages.specs.Page.{fitting, least_buffer, page_of, page}
use Rattle.pages.specs.Printed.{last_key, printed, joined, record_count, ended}

-- pages, with all that the next key needs
unfoldable pub pages_open : Unit {0}
unfolding next_open word_at records_of pairs_in fitting least_buffer page_of page last_key printed joined record_count ended
pages_open = tt
