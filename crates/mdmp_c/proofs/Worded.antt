-- The words of a fault: cut out of its line, and of its numbers those of the fault that they are.
use Rattle.std.proofs.Common.{◌≡◌, ◌∙◌, ◌+◌, ◌*◌, ◌-◌, ◌/◌, ◌%◌, ◌^◌, ℕ, List, [], ◌∷◌, Option, Some, None, ap, arith, drop, length, length-append, refl, subst, take}
use Rattle.std.specs.Prelude.{◌==◌, false, true}
use Rattle.std.proofs.lemmas.Bool.Decides.{nat_tests}
use Rattle.std.proofs.Math.Seq.{take-append_seam}
use Rattle.mdmp_wire.specs.declared.slot.PartName.{PartName}
use Rattle.mdmp_wire.specs.declared.slot.PartName.TheVariants as parts
use Rattle.mdmp_dump.specs.declared.fault.ReadFault.{ReadFault}
use Rattle.mdmp_dump.specs.declared.fault.ReadFault.TheVariants as reading
use Rattle.mdmp_lister.specs.declared.fault.FaultKind.{FaultKind}
use Rattle.mdmp_lister.specs.declared.fault.FaultKind.TheVariants as kinds
use Rattle.mdmp_lister.specs.declared.fault.ListFault.{ListFault}
use Rattle.mdmp_lister.specs.declared.fault.OpenFault.{OpenFault}
use Rattle.mdmp_lister.specs.declared.fault.OpenFault.TheVariants as opening
use Rattle.mdmp_engines.specs.declared.fault.ToolFault.{ToolFault}
use Rattle.mdmp_engines.specs.declared.fault.ToolFault.TheVariants as tool
use Rattle.mdmp_writer.specs.declared.fault.LayoutFault.TheVariants as layout
use Rattle.mdmp_engines.specs.CheckText.{bad_text}
use Rattle.mdmp_engines.specs.Faults.{fault_text}
use Rattle.mdmp_print.specs.Lines.{error_line}
use Rattle.mdmp_c.specs.declared.fault.PlainFault.{PlainFault}
use Rattle.mdmp_c.specs.Fault.{plain_list_fault, no_fault, open_fault}
use Rattle.mdmp_c.specs.FaultText.{FitsTool, FitsKind, FitsOpening, FitsReading, TellsWords, fault_in, fixed_words, told, words_of}
use Rattle.mdmp_c.specs.Giving.{GivesList}
use Rattle.mdmp_c.specs.ToolFault.{read_fault, tool_fault}

-- ---- out of the line

pub error_length : (text : List ℕ) → length (error_line text) ≡ length text + 7
error_length text = omega (arith, length-append text (10 ∷ []))

pub error_words : (text : List ℕ) → take (length text) (drop 6 (error_line text)) ≡ text
error_words text = take-append_seam text (10 ∷ [])

-- so much of the line is the words
pub cut_words : (text line : List ℕ) (n : ℕ) → line ≡ error_line text → n ≡ length line → take (n - 1 - 6) (drop 6 line) ≡ text
cut_words text line n is count =
    let many : n - 1 - 6 ≡ length text = omega (arith, count, ap length is, error_length text) in
    ap (λ (xs : List ℕ). take (n - 1 - 6) (drop 6 xs)) is
    ∙ ap (λ k. take k (drop 6 (error_line text))) many
    ∙ error_words text

-- what was given was told with no fault of its own
pub TellsWords-given : (p : PlainFault) (words given : List ℕ) (status count : ℕ) (fault : PlainFault) (before after : List ℕ) → words_of p ≡ Some words → given ≡ words
    → GivesList no_fault given status count fault before after → TellsWords p status count before after
TellsWords-given p words given status count fault before after is same gives =
    told words is
    (subst (λ (xs : List ℕ). GivesList no_fault xs status count no_fault before after) same
    (record { status_is = gives.status_is; count_is = gives.count_is; fault_is = refl; out = gives.out }))

-- ---- of the numbers of a fault

whole_number : (n : ℕ) → n / 2 ^ 64 * 2 ^ 64 + n % 2 ^ 64 ≡ n
whole_number n = omega arith

opening_words : (f : OpenFault) → FitsOpening f → words_of (open_fault f) ≡ Some (fault_text (tool.Opening f))
opening_words (opening.TooShort size) fits = refl
opening_words opening.BadSignature fits = refl
opening_words (opening.BadVersion low) fits = ap (λ n. Some (fault_text (tool.Opening (opening.BadVersion n)))) (let e : low % 2 ^ 16 ≡ low = omega (arith, fits) in e)
opening_words (opening.DirectoryOutside offset size) fits = refl
opening_words (opening.TooManyRanges count) fits = ap (λ n. Some (fault_text (tool.Opening (opening.TooManyRanges n)))) (whole_number count)
opening_words opening.Memory fits = refl
opening_words (opening.Budget offset size) fits = refl
opening_words (opening.MemoryLimit held) fits = ap (λ n. Some (fault_text (tool.Opening (opening.MemoryLimit n)))) (whole_number held)
opening_words (opening.Source fault) fits = absurd fits

list_words : (f : ListFault) (kind : FaultKind) → f.kind ≡ kind → FitsKind kind → words_of (plain_list_fault f) ≡ Some (fault_text (tool.List f))
list_words f kind is fits = by f.index refl kind is fits where
  by : (k : Option ℕ) → f.index ≡ k → (kind : FaultKind) → f.kind ≡ kind → FitsKind kind → words_of (plain_list_fault f) ≡ Some (fault_text (tool.List f))
  by None at kinds.StreamOutside is fits = rw (at, is) refl
  by None at kinds.ShortStream is fits = rw (at, is) refl
  by None at kinds.BadHeaderSize is fits = rw (at, is) refl
  by None at kinds.BadEntrySize is fits = rw (at, is) refl
  by None at kinds.BadCount is fits = rw (at, is) refl
  by None at kinds.NameLengthOutside is fits = rw (at, is) refl
  by None at kinds.NameOdd is fits = rw (at, is) refl
  by None at kinds.NameUnitsOutside is fits = rw (at, is) refl
  by (Some k) at kinds.StreamOutside is fits = rw (at, is) refl
  by (Some k) at kinds.ShortStream is fits = rw (at, is) refl
  by (Some k) at kinds.BadHeaderSize is fits = rw (at, is) refl
  by (Some k) at kinds.BadEntrySize is fits = rw (at, is) refl
  by (Some k) at kinds.BadCount is fits = rw (at, is) refl
  by (Some k) at kinds.NameLengthOutside is fits = rw (at, is) refl
  by (Some k) at kinds.NameOdd is fits = rw (at, is) refl
  by (Some k) at kinds.NameUnitsOutside is fits = rw (at, is) refl
  by k at kinds.Budget is fits = rw is refl
  by k at (kinds.Source fault) is fits = absurd fits

part_words : (e k : ℕ) (part : PartName) (offset size : ℕ) → words_of (read_fault (reading.PartOutside e k part offset size)) ≡ Some (fault_text (tool.Reading (reading.PartOutside e k part offset size)))
part_words e k parts.Stack offset size = ap (λ n. Some (fault_text (tool.Reading (reading.PartOutside e k parts.Stack n size)))) (whole_number offset)
part_words e k parts.Context offset size = ap (λ n. Some (fault_text (tool.Reading (reading.PartOutside e k parts.Context n size)))) (whole_number offset)
part_words e k parts.CodeView offset size = ap (λ n. Some (fault_text (tool.Reading (reading.PartOutside e k parts.CodeView n size)))) (whole_number offset)
part_words e k parts.Misc offset size = ap (λ n. Some (fault_text (tool.Reading (reading.PartOutside e k parts.Misc n size)))) (whole_number offset)
part_words e k parts.Memory offset size = ap (λ n. Some (fault_text (tool.Reading (reading.PartOutside e k parts.Memory n size)))) (whole_number offset)

list_reading : (f : ListFault) (kind : FaultKind) → f.kind ≡ kind → FitsKind kind → fault_text (tool.List f) ≡ fault_text (tool.Reading (reading.List f))
list_reading f kind is fits = refl

opening_reading : (f : OpenFault) → FitsOpening f → fault_text (tool.Opening f) ≡ fault_text (tool.Reading (reading.Opening f))
opening_reading f fits = refl

reading_words : (f : ReadFault) → FitsReading f → words_of (read_fault f) ≡ Some (fault_text (tool.Reading f))
reading_words (reading.Opening f) fits = opening_words f fits ∙ ap Some (opening_reading f fits)
reading_words (reading.List f) fits = list_words f f.kind refl fits ∙ ap Some (list_reading f f.kind refl fits)
reading_words (reading.PartOutside e k part offset size) fits = part_words e k part offset size
reading_words (reading.NameTooLong e k length) fits = ap (λ n. Some (fault_text (tool.Reading (reading.NameTooLong e k n)))) (let l : length % 2 ^ 32 ≡ length = omega (arith, fits) in l)
reading_words (reading.PartsTooLarge e k) fits = refl
reading_words reading.Memory fits = refl
reading_words (reading.Source fault) fits = absurd fits

-- the words of the numbers of a fault are its own
pub words_back : (f : ToolFault) → FitsTool f → words_of (tool_fault f) ≡ Some (fault_text f)
words_back (tool.Opening f) fits = opening_words f fits
words_back (tool.List f) fits = list_words f f.kind refl fits
words_back (tool.Reading f) fits = reading_words f fits
words_back (tool.Layout (layout.RawKnownType stream)) fits = refl
words_back (tool.Layout layout.TooLarge) fits = refl
words_back (tool.NotCopied t) fits = ap (λ n. Some (fault_text (tool.NotCopied n))) (let l : t % 2 ^ 32 ≡ t = omega (arith, fits) in l)
words_back tool.Out fits = absurd fits
words_back tool.Memory fits = refl
words_back (tool.Budget offset size) fits = refl
words_back (tool.MemoryLimit held) fits = ap (λ n. Some (fault_text (tool.MemoryLimit n))) (whole_number held)
words_back (tool.AsideLimit offset size) fits = refl
words_back (tool.CopyBudget needed) fits = ap (λ n. Some (fault_text (tool.CopyBudget n))) (whole_number needed)
words_back (tool.Source fault) fits = absurd fits

-- ---- of what no command tells

pub bad_told : (p : PlainFault) → fault_in p ≡ None → p.kind ≡ 64 → words_of p ≡ Some (bad_text p.size)
bad_told p none is =
    let same : (p.kind == 64) ≡ true = grind (arith, nat_tests) in
    rw none (rw same refl)

pub fixed_told : (p : PlainFault) (words : List ℕ) → fault_in p ≡ None → (p.kind ≡ 64 → ⊥) → fixed_words p.kind ≡ Some words → words_of p ≡ Some words
fixed_told p words none other is =
    let differs : (p.kind == 64) ≡ false = grind (arith, nat_tests) in
    rw none (rw differs is)
