-- If neither the directory of a file nor a chosen stream of it begins at offset 0, the budget is told there only before anything is read.
use Rattle.std.proofs.Common.{◌≡◌, ◌<◌, ℕ, List, Option, Some, ap, arith}
use Rattle.mdmp_wire.specs.Header.{header_at}
use Rattle.mdmp_wire.specs.declared.entry.Entry.{Entry}
use Rattle.mdmp_wire.specs.declared.header.Header.{Header}
use Rattle.mdmp_lister.specs.declared.choice.Choice.{Choice}
use Rattle.mdmp_lister.specs.Format.Listing.{entry_count, entry_of}
use Rattle.mdmp_lister.specs.NextFetch.{IsNameFetch, IsNextFetch, IsOpeningFetch, Standpoint}
use Rattle.mdmp_source.specs.Source.{SourceState}
use Rattle.mdmp_c.specs.declared.limits.PlainLimits.{PlainLimits}
use Rattle.mdmp_c.specs.NextRead.{IsEntryOf, IsNextRead, of_listing, of_opening}
use Rattle.mdmp_c.proofs.Coming.{entry_in}

module _ (limits : PlainLimits) (F : List ℕ) (choice : Choice)
    (directory : 0 < (header_at F 0).stream_directory_rva) (later : (number : ℕ) → number < entry_count F → 0 < (entry_of F number).location.rva) where
  behind : {some : Choice} (e : Entry) → IsEntryOf F some e → 0 < e.location.rva
  behind e of = let place = later of.number of.some in let same = ap (λ (d : Entry). d.location.rva) of.is in omega (arith, place, same)

  as_opened : (counted : Option Choice) (window : ℕ) (source : SourceState) (read size : ℕ) → source.store.content ≡ Some F → IsOpeningFetch counted window source read 0 size → (read ≡ 0) × (size ≡ 32)
  as_opened counted window source read size known (IsOpeningFetch.of_header none at size_is) = (none, size_is)
  as_opened counted window source read size known (IsOpeningFetch.of_directory header is next) =
      let same = ap (λ (h : Header). h.stream_directory_rva) (is.of_file F known).1 in
      let at = next.offset_is in
      absurd (omega (arith, same, at, directory))
  as_opened counted window source read size known (IsOpeningFetch.of_head header is entries of some counts next) =
      let place = behind {some = some} next.entry (entry_in F some entries next.entry (of F known) (record { number = next.number; is = next.is; chosen = next.chosen })) in
      let at = next.offset_is in
      absurd (omega (arith, place, at))

  name_later : (content : Option (List ℕ)) (z limit rva before read size : ℕ) → IsNameFetch content z limit rva before read 0 size → ⊥
  name_later content z limit rva before read size (IsNameFetch.of_length some inside fetched at size_is) = omega (arith, some, at)
  name_later content z limit rva before read size (IsNameFetch.of_units some inside fetched at even few of) = omega (arith, at)

  as_listed : (s : Standpoint) (read size : ℕ) → 0 < s.entry.location.rva → IsNextFetch s read 0 size → ⊥
  as_listed s read size place (IsNextFetch.of_head standing kind kind_is fetched next) = let at = next.offset_is in omega (arith, place, at)
  as_listed s read size place (IsNextFetch.of_record kind here record_is fetched next) = let at = next.offset_is in let is = record_is.at_is in omega (arith, place, at, is)
  as_listed s read size place (IsNextFetch.of_name kind here rva before record_is named fetched next) = name_later s.content s.size s.limit rva before read size next

  pub none_at_zero : (counted : Option Choice) (read size : ℕ) → IsNextRead limits F choice counted read 0 size → (read ≡ 0) × (size ≡ 32)
  none_at_zero counted read size (of_opening source known sized next) = as_opened counted limits.window source read size known next
  none_at_zero counted read size (of_listing at stands next) = absurd (as_listed at read size (behind {some = choice} at.entry stands.entry) next)
