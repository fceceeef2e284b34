-- The entries of a directory, put into an array.
use Rattle.std.proofs.Common.{◌≡◌, ◌∙◌, ◌≤◌, ◌<◌, ◌+◌, ◌*◌, ◌^◌, ℕ, List, true, false, None, ap, arith, inl, inr, length, map, refl, sym}
use Rattle.std.specs.List.{range_with_len}
use Rattle.std.specs.Prelude.{nat_lt, if◌then◌else◌}
use Rattle.std.proofs.lemmas.Bool.Decides.{nat_tests}
use Rattle.std.proofs.lemmas.List.FromFn.{length-map-range_with_len}
use Rattle.mdmp_source.specs.Range.{IsInside}
use Rattle.mdmp_wire.specs.declared.header.Header.{Header}
use Rattle.mdmp_wire.specs.Entry.{entry_at}
use Rattle.mdmp_wire.specs.Header.{header_at}
use Rattle.mdmp_lister.specs.Format.Refusal.{directory_refusal}
use Rattle.mdmp_c.specs.declared.header_rows.StreamRow.{StreamRow}
use Rattle.mdmp_c.specs.Directory.{stream_row, stream_rows}
use Rattle.mdmp_c.specs.Fault.{no_fault, told_unless}
use Rattle.mdmp_c.specs.Giving.{GivesList, put_front}
use Rattle.mdmp_c.specs.Table.{rows_unless}

-- an entry of a directory that lies inside a file does too
pub entry_inside : (at count number size : ℕ) → IsInside at (12 * count) size → number < count → at + 12 * number + 12 ≤ size
entry_inside at count number size (inl none) before = absurd (omega (arith, none, before))
entry_inside at count number size (inr within) before = omega (arith, within, before)

-- the rows of a directory that a header places
abbrev pub rows_by : List ℕ → Header → List StreamRow
rows_by F h = map (λ e. stream_row e (entry_at F (h.stream_directory_rva + 12 * e))) (range_with_len 0 h.number_of_streams)

pub status_short : (room n : ℕ) → room < n → ◌≡◌ {A = ℕ} 4 (if nat_lt room n then 4 else 0)
status_short room n short = let is : nat_lt room n ≡ true = grind (arith, nat_tests) in rw is refl

pub status_fits : (room n : ℕ) → n ≤ room → ◌≡◌ {A = ℕ} 0 (if nat_lt room n then 4 else 0)
status_fits room n fits = let is : nat_lt room n ≡ false = grind (arith, nat_tests) in rw is refl

pub GivesList-streams : (F : List ℕ) (h : Header) (status count : ℕ) (before after : List StreamRow) → directory_refusal F ≡ None → h ≡ header_at F 0 → count ≡ h.number_of_streams
    → count < 2 ^ 64 → status ≡ (if nat_lt (length before) h.number_of_streams then 4 else 0) → after ≡ put_front (rows_by F h) before
    → GivesList (told_unless (directory_refusal F) no_fault) (rows_unless (directory_refusal F) (stream_rows F)) status count no_fault before after
GivesList-streams F h status count before after none is counts small ends puts =
    let same : rows_by F h ≡ stream_rows F = ap (rows_by F) is in
    let long : length (rows_by F h) ≡ h.number_of_streams =
    length-map-range_with_len (λ e. stream_row e (entry_at F (h.stream_directory_rva + 12 * e))) 0 h.number_of_streams in
    let all : length (stream_rows F) ≡ h.number_of_streams = ap length (sym same) ∙ long in
    rw none record {
      status_is = ends ∙ ap (λ n. if nat_lt (length before) n then 4 else 0) (sym all);
      count_is = omega (arith, counts, small, all);
      fault_is = refl;
      out = puts ∙ ap (λ (xs : List StreamRow). put_front xs before) same;
    }
