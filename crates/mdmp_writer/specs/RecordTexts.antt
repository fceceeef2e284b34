-- What is written of the records of a stream, one behind the other.
use Rattle.std.specs.Prelude.{ℕ, ◌*◌, ◌-◌, ◌<◌, ◌^◌, List, IsTrue}
use Rattle.mdmp_dump.specs.declared.view.Fields.{Fields}
use Rattle.mdmp_dump.specs.declared.view.Kind.{Kind}
use Rattle.mdmp_dump.specs.declared.view.Kind.TheVariants.{Known}
use Rattle.mdmp_dump.specs.Placed.{bytes_in, far_room, fields_room, seen_parts, seen_row}
use Rattle.mdmp_dump.specs.Seen.{Seen}
use Rattle.mdmp_dump.specs.Shape.{StreamCursor, is_far, row_of, type_told}
use Rattle.mdmp_writer.specs.declared.record_texts.RecordText.{RecordText}
use Rattle.mdmp_writer.specs.declared.record_texts.RecordText.TheVariants.{Row, Parts, Memory}
use Rattle.mdmp_writer.specs.Written.{all_padded, parts_of, ranges_text, rows}

-- of a record whose name and parts begin at a place
abbrev pub record_text : RecordText → ℕ → Seen → List ℕ
record_text Row at x = seen_row x at
record_text Parts at x = all_padded (seen_parts x)
record_text Memory at x = bytes_in x 0

-- of records, of which the first is such a one
abbrev pub record_texts : RecordText → ℕ → List Seen → List ℕ
record_texts Row at xs = rows at xs
record_texts Parts at xs = all_padded (parts_of xs)
record_texts Memory at xs = ranges_text xs

-- how many bytes that are, of a record of these fields
abbrev pub text_size : RecordText → Fields → ℕ
text_size Row f = row_of (type_told f.wire)
text_size Parts f = fields_room f
text_size Memory f = far_room f

-- of so many rows of a stream of this kind, whose records are known
abbrev pub bytes_of_rows : Kind → ℕ → ℕ
bytes_of_rows (Known t) count = count * row_of t
bytes_of_rows kind count = 0

-- of the records that are left of a stream
abbrev pub texts_size : RecordText → StreamCursor → ℕ
texts_size Row left = bytes_of_rows left.kind left.records
texts_size Parts left = left.room
texts_size Memory left = left.far

-- how many bytes a view is asked for, of so many bytes of names and parts
abbrev pub bytes_asked : RecordText → ℕ → ℕ
bytes_asked Row bytes = 0
bytes_asked Parts bytes = bytes
bytes_asked Memory bytes = bytes

-- records of this kind, which have so many bytes of 64-bit memory, have such texts: those of ranges alone are of such memory,
-- and fewer than the greatest size that is told
abbrev pub HaveText : RecordText → Kind → ℕ → Type 0
HaveText Row kind far = Unit {0}
HaveText Parts kind far = Unit {0}
HaveText Memory kind far = IsTrue (is_far kind) × (far < 2 ^ 64 - 1)
