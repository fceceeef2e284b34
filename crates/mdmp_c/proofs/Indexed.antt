-- Rows that are kept by an index.
use Rattle.std.proofs.Common.{◌≡◌, ◌+◌, ◌-◌, ◌⊎◌, ◌∙◌, ◌∷◌, [], ℕ, Bool, false, List, Option, None, Some, ap, arith, inl, inr, is_some, length, refl, sym, get_or}
use Rattle.std.specs.Prelude.{All, option_map, slice_index}
use Rattle.std.proofs.lemmas.Bool.{cases_Bool}
use Rattle.std.proofs.lemmas.Bool.Decides.{nat_tests}
use Rattle.std.proofs.lemmas.List.Elements.{All-cons, All-nil}
use Rattle.mdmp_map.specs.declared.range.Range.{Range}
use Rattle.mdmp_map.specs.RangeLaws.{first_range-holds, first_range-passes}
use Rattle.mdmp_map.specs.Ranges.{IsWithin, byte_at, first_range, holds}
use Rattle.mdmp_index.specs.Reading.{IsByte, ReadsBytes}
use Rattle.mdmp_index.specs.Slots.{no_range}
use Rattle.mdmp_lister.specs.Addressing.{ReadsCells}
use Rattle.mdmp_lister.specs.Painting.{IsCell}
use Rattle.mdmp_lister.proofs.Painted.{cells_read}
use Rattle.mdmp_c.specs.declared.rows.RangeRow.{RangeRow}
use Rattle.mdmp_c.specs.Index.{row_range, row_ranges}
use Rattle.mdmp_c.specs.Memory.{is_kept, kept_range, kept_ranges}

-- ---- the ranges of rows

holds_none : (a : ℕ) → holds a no_range ≡ false
holds_none a = grind (arith, nat_tests)

cases_kept : (o : Option Range) → (o ≡ None) ⊎ ((r : Range) × (o ≡ Some r))
cases_kept None = inl refl
cases_kept (Some r) = inr (r, refl)

-- a row that is passed over holds no address
pub first_of_rows : (z a : ℕ) (rs : List RangeRow) → first_range (row_ranges z rs) a ≡ first_range (kept_ranges z rs) a
first_of_rows z a [] = refl
first_of_rows z a (r ∷ rs) = elim (cases_kept (kept_range z r)) [
  | inl none ↦ rw none (first_range-passes a no_range (row_ranges z rs) (holds_none a) ∙ first_of_rows z a rs)
  | inr some ↦
      rw some.1 (elim (cases_Bool (holds a some.0)) [
        | inl here ↦ first_range-holds a some.0 (row_ranges z rs) here ∙ sym (first_range-holds a some.0 (kept_ranges z rs) here)
        | inr not ↦
            first_range-passes a some.0 (row_ranges z rs) not ∙ first_of_rows z a rs ∙ sym (first_range-passes a some.0 (kept_ranges z rs) not)
      ])
]

-- the bytes of a range lie inside the file
row_within : (z : ℕ) (r : RangeRow) → IsWithin z (row_range z r)
row_within z r = elim (cases_Bool (is_kept z r)) [
  | inl is ↦ rw is (grind (arith, nat_tests))
  | inr not ↦ rw not (omega arith)
]

pub rows_within : (z : ℕ) (rs : List RangeRow) → All (IsWithin z) (row_ranges z rs)
rows_within z [] = All-nil (IsWithin z)
rows_within z (r ∷ rs) = All-cons (IsWithin z) (row_range z r) (row_ranges z rs) (row_within z r) (rows_within z rs)

-- ---- what is read

not_some : (o : Option Range) → is_some o ≡ false → o ≡ None
not_some None is = refl
not_some (Some r) is = absurd (cc)

cell_is : (F : List ℕ) (ranges kept : List Range) (a byte : ℕ) (is_known : Bool) → first_range ranges a ≡ first_range kept a → IsByte F ranges a byte is_known
    → IsCell (Some F) kept a byte is_known
cell_is F ranges kept a byte is_known same is = record {
  held = is.held ∙ ap is_some same;
  zero = is.zero;
  of_file = λ G known.
      let file : F ≡ G = cc in
      elim (cases_Bool is_known) [
        | inl is_known_so ↦
            rw is_known_so (is.of_file is_known_so ∙ ap (option_map (λ (r : Range). slice_index F (r.offset + (a - r.start)))) same ∙ ap (λ H. byte_at H kept a) file)
        | inr not ↦
            let none : first_range kept a ≡ None = not_some (first_range kept a) (sym (is.held ∙ ap is_some same) ∙ not) in
            rw not (sym (ap (option_map (λ (r : Range). slice_index G (r.offset + (a - r.start)))) none))
      ];
}

pub indexed_cells : (F : List ℕ) (rs : List RangeRow) (address : ℕ) (out : List ℕ) (known : List Bool) → length known ≡ length out → ReadsBytes F (row_ranges (length F) rs) address out known
    → ReadsCells (Some F) (kept_ranges (length F) rs) address out known
indexed_cells F rs address out known same reads =
    cells_read (Some F) (kept_ranges (length F) rs) address out known same (λ k lt.
    cell_is F (row_ranges (length F) rs) (kept_ranges (length F) rs) (address + k) (slice_index out k) (get_or known k false) (first_of_rows (length F) (address + k) rs) (reads k lt))
