-- A name that was read and kept is the one that stands in the file.
use Rattle.std.proofs.Common.{◌≡◌, ◌∙◌, ◌+◌, ◌++◌, ◌%◌, ◌==◌, ℕ, Bool, true, false, List, length, Option, Some, Ok, Err, ap, arith, nat_lt, refl, subst, sym, if◌then◌else◌}
use Rattle.std.proofs.Math.Seq.{take-append_seam}
use Rattle.std.specs.Prelude.{not, take, IfSome, MatchResult, Result}
use Rattle.mdmp_source.specs.Output.{OutState, Puts}
use Rattle.mdmp_source.specs.Range.{bytes_at, is_inside}
use Rattle.mdmp_source.specs.Source.{FetchesAtMost, SourceState}
use Rattle.mdmp_wire.specs.Number.{array_at, number_at}
use Rattle.mdmp_wire.specs.NumberLaws.{number_at-part}
use Rattle.mdmp_wire.specs.Units.{units_over}
use Rattle.mdmp_wire.specs.declared.units_ref.UnitsRef.{UnitsRef}
use Rattle.mdmp_lister.specs.Format.Name.{name_at}
use Rattle.mdmp_lister.specs.declared.fault.Fault.{Fault}
use Rattle.mdmp_lister.specs.declared.name.Name.{Name}
use Rattle.mdmp_lister.specs.declared.name.Name.TheVariants as names
use Rattle.mdmp_summary.specs.Summary.{file_summary}
use Rattle.mdmp_summary.specs.declared.summary.FileSummary.{FileSummary}
use Rattle.mdmp_summary_lines.specs.SummaryText.{summary_text}
use Rattle.mdmp_summary_lines.specs.declared.names.SummaryNames.{SummaryNames}
use Rattle.mdmp_engines.specs.KeptNames.{IsNameFault, good_name, told_bytes, told_name, told_names}
use Rattle.mdmp_engines.specs.SummaryRuns.{FetchesTold, IsNamed, IsPrintedOrUnread, IsUnreadFault, summary_names}
use Rattle.mdmp_engines.specs.declared.fault.ToolFault.{ToolFault}
use Rattle.mdmp_engines.specs.declared.fault.ToolFault.TheVariants as tool

-- ---- what a file of known content gives

pub some_known : (P : List ℕ → Type 0) (F : List ℕ) (content : Option (List ℕ)) → content ≡ Some F → IfSome content P → P F
some_known P F content known is = subst (λ (x : Option (List ℕ)). IfSome x P) known is

-- the length that was read
pub length_read : (F head : List ℕ) (rva n : ℕ) → n ≡ number_at head 0 4 → head ≡ bytes_at F rva (length head) → length head ≡ 4 → n ≡ number_at F rva 4
length_read F head rva n is bytes four =
    let stand : head ≡ bytes_at F rva 4 = bytes ∙ ap (bytes_at F rva) four in
    is ∙ ap (λ (h : List ℕ). number_at h 0 4) stand ∙ number_at-part 4 rva 4 F (omega arith)

-- the units that were read, in front of the rest of their list
pub units_read : (F out rest : List ℕ) (at n m : ℕ) → out ≡ bytes_at F at (length out) → length out ≡ n → m ≡ n → take m (out ++ rest) ≡ array_at F at n
unfolding array_at
units_read F out rest at n m bytes size same =
    ap (λ (k : ℕ). take k (out ++ rest)) (same ∙ sym size) ∙ take-append_seam out rest
    ∙ bytes ∙ ap (bytes_at F at) size

-- ---- the name, by its tests

absent_is : (absent : Bool) (rest : Result Name Fault) → absent ≡ true → names.None ≡ good_name (if absent then Ok names.None else rest)
absent_is true rest is = refl
absent_is false rest is = absurd (cc)

unmeasured_is : (absent measured : Bool) (a : Fault) (rest : Result Name Fault) → measured ≡ false
    → names.None ≡ good_name (if absent then Ok names.None else if not measured then Err a else rest)
unmeasured_is true measured a rest is = refl
unmeasured_is false true a rest is = absurd (cc)
unmeasured_is false false a rest is = refl

odd_is : (absent measured odd : Bool) (a b : Fault) (rest : Result Name Fault) → odd ≡ true
    → names.None ≡ good_name (if absent then Ok names.None else if not measured then Err a else if odd then Err b else rest)
odd_is true measured odd a b rest is = refl
odd_is false false odd a b rest is = refl
odd_is false true true a b rest is = refl
odd_is false true false a b rest is = absurd (cc)

outside_is : (absent measured odd inside : Bool) (a b c : Fault) (rest : Result Name Fault) → inside ≡ false
    → names.None ≡ good_name (if absent then Ok names.None else if not measured then Err a else if odd then Err b else if not inside then Err c else rest)
outside_is true measured odd inside a b c rest is = refl
outside_is false false odd inside a b c rest is = refl
outside_is false true true inside a b c rest is = refl
outside_is false true false false a b c rest is = refl
outside_is false true false true a b c rest is = absurd (cc)

good_is : (absent measured odd inside : Bool) (a b c : Fault) (rest : Result Name Fault) (n : Name) → absent ≡ false → measured ≡ true → odd ≡ false → inside ≡ true
    → n ≡ good_name rest → n ≡ good_name (if absent then Ok names.None else if not measured then Err a else if odd then Err b else if not inside then Err c else rest)
good_is false true false true a b c rest n is-there is-measured is-even is-inside same = same
good_is true measured odd inside a b c rest n is-there is-measured is-even is-inside same = absurd (cc)
good_is false false odd inside a b c rest n is-there is-measured is-even is-inside same = absurd (cc)
good_is false true true inside a b c rest n is-there is-measured is-even is-inside same = absurd (cc)
good_is false true false false a b c rest n is-there is-measured is-even is-inside same = absurd (cc)

long_is : (long : Bool) (n bytes : ℕ) (units : UnitsRef) → n ≡ bytes → long ≡ true → names.Long n ≡ good_name (if long then Ok (names.Long bytes) else Ok (names.Units units))
long_is true n bytes units same is = ap names.Long same
long_is false n bytes units same is = absurd (cc)

whole_is : (long : Bool) (bytes : ℕ) (read units : List ℕ) → read ≡ units → long ≡ false
    → names.Units (units_over read) ≡ good_name (if long then Ok (names.Long bytes) else Ok (names.Units (units_over units)))
whole_is false bytes read units same is = ap (λ (u : List ℕ). names.Units (units_over u)) same
whole_is true bytes read units same is = absurd (cc)

module _ (F : List ℕ) (limit rva : ℕ) where
  pub told_absent : (rva == 0) ≡ true → names.None ≡ told_name F limit rva
  unfolding name_at
  told_absent is = absent_is (rva == 0) _ is

  pub told_unmeasured : is_inside rva 4 (length F) ≡ false → names.None ≡ told_name F limit rva
  unfolding name_at
  told_unmeasured is = unmeasured_is (rva == 0) (is_inside rva 4 (length F)) _ _ is

  pub told_odd : (n : ℕ) → n ≡ number_at F rva 4 → (n % 2 == 1) ≡ true → names.None ≡ told_name F limit rva
  unfolding name_at
  told_odd n same is =
      odd_is (rva == 0) (is_inside rva 4 (length F)) (number_at F rva 4 % 2 == 1) _ _ _ (subst (λ (m : ℕ). (m % 2 == 1) ≡ true) same is)

  pub told_outside : (n : ℕ) → n ≡ number_at F rva 4 → is_inside (rva + 4) n (length F) ≡ false → names.None ≡ told_name F limit rva
  unfolding name_at
  told_outside n same is =
      outside_is (rva == 0) (is_inside rva 4 (length F)) (number_at F rva 4 % 2 == 1) (is_inside (rva + 4) (number_at F rva 4) (length F)) _ _ _ _
      (subst (λ (m : ℕ). is_inside (rva + 4) m (length F) ≡ false) same is)

  module _ (n : ℕ) (same : n ≡ number_at F rva 4) (there : (rva == 0) ≡ false) (measured : is_inside rva 4 (length F) ≡ true) (even : (n % 2 == 1) ≡ false)
      (inside : is_inside (rva + 4) n (length F) ≡ true) where
    pub told_long : nat_lt limit n ≡ true → names.Long n ≡ told_name F limit rva
    unfolding name_at
    told_long is =
        good_is (rva == 0) (is_inside rva 4 (length F)) (number_at F rva 4 % 2 == 1) (is_inside (rva + 4) (number_at F rva 4) (length F)) _ _ _ _ (names.Long n) there measured
        (subst (λ (m : ℕ). (m % 2 == 1) ≡ false) same even) (subst (λ (m : ℕ). is_inside (rva + 4) m (length F) ≡ true) same inside)
        (long_is (nat_lt limit (number_at F rva 4)) n (number_at F rva 4) _ same (subst (λ (m : ℕ). nat_lt limit m ≡ true) same is))

    pub told_units : (read : List ℕ) → nat_lt limit n ≡ false → read ≡ array_at F (rva + 4) n → names.Units (units_over read) ≡ told_name F limit rva
    unfolding name_at
    told_units read is bytes =
        good_is (rva == 0) (is_inside rva 4 (length F)) (number_at F rva 4 % 2 == 1) (is_inside (rva + 4) (number_at F rva 4) (length F)) _ _ _ _ (names.Units (units_over read)) there measured
        (subst (λ (m : ℕ). (m % 2 == 1) ≡ false) same even) (subst (λ (m : ℕ). is_inside (rva + 4) m (length F) ≡ true) same inside)
        (whole_is (nat_lt limit (number_at F rva 4)) (number_at F rva 4) read (array_at F (rva + 4) (number_at F rva 4)) (bytes ∙ ap (array_at F (rva + 4)) same)
        (subst (λ (m : ℕ). nat_lt limit m ≡ false) same is))

-- ---- what is printed of them

pub name_unread : (old new : SourceState) (fault : ToolFault) → IsNameFault old new fault → IsUnreadFault fault
name_unread old new tool.Memory is = tt
name_unread old new (tool.Source fault) is = tt
name_unread old new fault is = absurd is

pub printed_named : (name F : List ℕ) (limit : ℕ) (summary : FileSummary) (kept : SummaryNames) (before : OutState) (answer : Result ℕ ToolFault) (after : OutState)
    → kept ≡ told_names F limit summary → MatchResult answer (λ bad. bad ≡ summary.bad.count) (λ fault. fault ≡ tool.Out)
    → Puts answer before (summary_text name summary kept) after → IsPrintedOrUnread name F limit summary before answer after
printed_named name F limit summary kept before answer after is told puts =
    IsPrintedOrUnread.printed told (subst (λ (n : SummaryNames). Puts answer before (summary_text name summary n) after) is puts)

-- ---- what was fetched for names

-- an error of a name leaves one that was not read
pub unnamed : (old new : SourceState) (f : ToolFault) → IsNameFault old new f → IsNamed (Err f) → ⊥
unnamed old new tool.Memory is named = named
unnamed old new (tool.Source s) is named = named
unnamed old new f is named = is

-- the names of a known file's summary are those that are told
pub fetches_summary : (limit : ℕ) (summary : FileSummary) (answer : Result ℕ ToolFault) (old new : SourceState)
    → ((file : List ℕ) → old.store.content ≡ Some file → summary ≡ file_summary file limit)
    → FetchesTold limit (λ file. told_names file limit summary) answer old new → FetchesTold limit (summary_names limit) answer old new
fetches_summary limit summary answer old new is fetches = record {
  most = fetches.most;
  all = λ named file known. subst (λ (s : FileSummary). FetchesAtMost (told_bytes (told_names file limit s)) old new) (is file known) (fetches.all named file known);
}
