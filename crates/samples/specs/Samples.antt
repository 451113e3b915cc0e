-- 01: "Samples A to L are a single list under a single proof"; 02, 7: "In 01 samples A to L stay as they are, and a new one joins the list".
use Rattle.std.specs.Prelude.{◌≡◌, refl, pos, true, false, List, [], ◌∷◌}
use Rattle.std.specs.Float.Ieee as Ieee
use Rattle.cells.specs.Word.{word_at}
use Rattle.cells.specs.Memory.{memory_of}
use Rattle.order_words.specs.Order.{valid_order}
use Rattle.nodes.specs.Sparse.{sparse_order}
use Rattle.snapshots.specs.Computing.{snapshots_open}
use Rattle.store.specs.Computing.{calls_open}
use Rattle.calendar.specs.Date.{february_days, days_of_month, is_date, is_after}
use Rattle.dosing.specs.declared.temperature.Reading.TheVariants.{Fahrenheit}
use Rattle.dosing.specs.Temperature.{whole, on_scale, to_celsius, celsius, valid_reading, valid_gate, in_gate}
use Rattle.dosing.specs.Sheet.{valid_section, valid_length, valid_sheet, dose_of}
use Rattle.dosing.specs.Verdict.{verdict_of, verdict}
use Rattle.samples.specs.Line.{Line, line}
use Rattle.samples.specs.Line.Letter.{A, B, C, D, E, F, G, H, I, J, K, L, M}
use Rattle.samples.specs.Line.Says.{answer, count, count_in, root, block, cell, link, order_word, valid_word, packed, answer_on, dose, degrees}
use Rattle.samples.specs.Line.Value.{number, bytes, truth, float}
use Rattle.samples.specs.Bytes.{block_a, cell_d, cell_f}
use Rattle.samples.specs.Calls.{fresh_in, fresh, sample_a, sample_b, sample_c, sample_d, sample_e, sample_f, sample_g, sample_h, sample_h_in, sample_m, expiry_j, verdict_on, root_of}

-- what the definitions compute, and what 01 says of each sample
pub samples :
    ◌≡◌ {A = List Line}
    (line A answer (number sample_a.answer)
    ∷ line A count (number sample_a.count)
    ∷ line A block (bytes sample_a.block)
    ∷ line B root (number (root_of sample_b.block))
    ∷ line C answer (number sample_c.answer)
    ∷ line D (cell 2) (bytes (memory_of sample_d.block 2))
    ∷ line D root (number (root_of sample_d.block))
    ∷ line E root (number (root_of sample_e.block))
    ∷ line F root (number (root_of sample_f.block))
    ∷ line F (cell 2) (bytes (memory_of sample_f.block 2))
    ∷ line G root (number (root_of sample_g.block))
    ∷ line G order_word (number (sparse_order (memory_of sample_g.block 3)))
    ∷ line H count (number sample_h.count)
    ∷ line H (link 2) (number (word_at (memory_of sample_h.block 2) 0x1C))
    ∷ line H root (number (root_of sample_h.block))
    ∷ line H (count_in 2) (number (sample_h_in 2).count)
    ∷ line I (valid_word 0x0006) (truth (valid_order 0x0006))
    ∷ line I (valid_word 0x0026) (truth (valid_order 0x0026))
    ∷ line I (valid_word 0x8129) (truth (valid_order 0x8129))
    ∷ line I (valid_word 0x0001) (truth (valid_order 0x0001))
    ∷ line I (valid_word 0x0007) (truth (valid_order 0x0007))
    ∷ line J packed (number expiry_j)
    ∷ line J (answer_on 2025 3 7) (number (verdict_on 2025 3 7).answer)
    ∷ line J (answer_on 2025 3 8) (number (verdict_on 2025 3 8).answer)
    ∷ line J (answer_on 2025 7 3) (number (verdict_on 2025 7 3).answer)
    ∷ line K dose (float (verdict_on 2025 3 7).dose)
    ∷ line L degrees (float (celsius (Fahrenheit (whole (pos 392)))))
    ∷ line M root (number (root_of sample_m.block))
    ∷ [])
    (line A answer (number 0)
    ∷ line A count (number 1)
    ∷ line A block (bytes block_a)
    ∷ line B root (number 0x0000005B)
    ∷ line C answer (number 7)
    ∷ line D (cell 2) (bytes cell_d)
    ∷ line D root (number 0x0000005B)
    ∷ line E root (number 0x00000039)
    ∷ line F root (number 0x0000005E)
    ∷ line F (cell 2) (bytes cell_f)
    ∷ line G root (number 0x0000007E)
    ∷ line G order_word (number 0x0026)
    ∷ line H count (number 2)
    ∷ line H (link 2) (number 0x0000003A)
    ∷ line H root (number 0x0000007B)
    ∷ line H (count_in 2) (number 2)
    ∷ line I (valid_word 0x0006) (truth true)
    ∷ line I (valid_word 0x0026) (truth true)
    ∷ line I (valid_word 0x8129) (truth true)
    ∷ line I (valid_word 0x0001) (truth false)
    ∷ line I (valid_word 0x0007) (truth false)
    ∷ line J packed (number 1036903)
    ∷ line J (answer_on 2025 3 7) (number 0)
    ∷ line J (answer_on 2025 3 8) (number 13)
    ∷ line J (answer_on 2025 7 3) (number 13)
    ∷ line K dose (float (whole (pos 240)))
    ∷ line L degrees (float (whole (pos 200)))
    ∷ line M root (number 0x0000009E)
    ∷ [])
unfolding calls_open snapshots_open february_days days_of_month is_date is_after on_scale to_celsius celsius valid_reading valid_gate in_gate valid_section valid_length valid_sheet dose_of verdict_of verdict Ieee.of_int Ieee.sub Ieee.mul Ieee.div Ieee.le fresh_in fresh sample_a sample_b sample_c sample_d sample_e sample_f sample_g sample_h sample_h_in sample_m expiry_j verdict_on
samples = refl
