-- What an opening may tell of a budget that it reaches, of a few files.
use Rattle.std.proofs.Common.{◌≡◌, ◌≤◌, ◌<◌, ◌+◌, ◌-◌, ◌∙◌, ap, ℕ, zero, suc, List, Option, Some, None, arith, min}
use Rattle.mdmp_source.specs.Source.{SourceState}
use Rattle.mdmp_wire.specs.Header.{header_at}
use Rattle.mdmp_wire.specs.declared.header.Header.{Header}
use Rattle.mdmp_lister.specs.declared.choice.Choice.{Choice}
use Rattle.mdmp_lister.specs.declared.fault.OpenFault.{OpenFault}
use Rattle.mdmp_lister.specs.declared.limits.Limits.{Limits}
use Rattle.mdmp_lister.specs.Format.Refusal.{directory_refusal}
use Rattle.mdmp_lister.specs.NextFetch.{ComesToFetch, IsDirectoryFetch, IsHeaderRead, IsOpeningFetch, filled}

module _ (limits : Limits) (old new : SourceState) (file : List ℕ) (known : old.store.content ≡ Some file) (offset size : ℕ) where
  -- a bad header, or a directory outside, is told before the budget is told of what comes next
  differ : (fault : OpenFault) → directory_refusal file ≡ Some fault → directory_refusal file ≡ None → ⊥
  differ fault bad good = cc

  at_header : (counted : Option Choice) (fault : OpenFault) → directory_refusal file ≡ Some fault → (fetched : ℕ) → IsOpeningFetch counted limits.window old fetched offset size → (offset ≡ 0) × (size ≡ 32)
  at_header counted fault bad fetched (IsOpeningFetch.of_header none at len) = (at, len)
  at_header counted fault bad fetched (IsOpeningFetch.of_directory h read next) = absurd (differ fault bad (read.of_file file known).0)
  at_header counted fault bad fetched (IsOpeningFetch.of_head h read entries directory choice is next) = absurd (differ fault bad (read.of_file file known).0)

  pub bad_header : (counted : Option Choice) (fault : OpenFault) → directory_refusal file ≡ Some fault → ComesToFetch counted limits old offset size new → (offset ≡ 0) × (size ≡ 32)
  bad_header counted fault bad comes = at_header counted fault bad comes.fetched comes.next

  -- of 20 entries at 32 a window of 168 bytes takes 168 bytes, and then the other 72
  module _ (window : limits.window ≡ 168) (rva : (header_at file 0).stream_directory_rva ≡ 32) (streams : (header_at file 0).number_of_streams ≡ 20) where
    first_fill : (fills fetched : ℕ) → fetched ≤ 199 → filled 168 fills < 240 → fetched ≡ 32 + filled 168 fills → offset ≡ 32 + filled 168 fills → size ≡ min (filled 168 (suc fills)) 240 - filled 168 fills
        → (offset ≡ 32) × (size ≡ 168)
    first_fill zero fetched few more before at len = (omega (arith, at), omega (arith, len))
    first_fill (suc k) fetched few more before at len = absurd (omega (arith, before, few))

    second_fill : (fills fetched : ℕ) → 200 ≤ fetched → filled 168 fills < 240 → fetched ≡ 32 + filled 168 fills → offset ≡ 32 + filled 168 fills → size ≡ min (filled 168 (suc fills)) 240 - filled 168 fills
        → (offset ≡ 200) × (size ≡ 72)
    second_fill zero fetched much more before at len = absurd (omega (arith, before, much))
    second_fill (suc zero) fetched much more before at len = (omega (arith, at), omega (arith, len))
    second_fill (suc (suc k)) fetched much more before at len = absurd (omega (arith, more))

    module _ (h : Header) (read : IsHeaderRead old h) (fetched : ℕ) (next : IsDirectoryFetch limits.window h fetched offset size) where
      rva_is : h.stream_directory_rva ≡ 32
      rva_is = ap (λ (x : Header). x.stream_directory_rva) (read.of_file file known).1 ∙ rva

      streams_are : h.number_of_streams ≡ 20
      streams_are = ap (λ (x : Header). x.number_of_streams) (read.of_file file known).1 ∙ streams

      told_first : fetched ≤ 199 → (offset ≡ 32) × (size ≡ 168)
      told_first few = first_fill next.fills fetched few (rw (window, streams_are) at next.more) (rw window at next.before) (rw (window, rva_is) at next.offset_is) (rw (window, streams_are) at next.size_is)

      told_second : 200 ≤ fetched → (offset ≡ 200) × (size ≡ 72)
      told_second much = second_fill next.fills fetched much (rw (window, streams_are) at next.more) (rw window at next.before) (rw (window, rva_is) at next.offset_is) (rw (window, streams_are) at next.size_is)

    at_first : (fetched : ℕ) → 32 ≤ fetched → fetched ≤ 199 → IsOpeningFetch None limits.window old fetched offset size → (offset ≡ 32) × (size ≡ 168)
    at_first fetched some few (IsOpeningFetch.of_header none at len) = absurd (omega (arith, none, some))
    at_first fetched some few (IsOpeningFetch.of_directory h read next) = told_first h read fetched next few
    at_first fetched some few (IsOpeningFetch.of_head h read entries directory choice is next) = cc

    at_second : (fetched : ℕ) → 200 ≤ fetched → IsOpeningFetch None limits.window old fetched offset size → (offset ≡ 200) × (size ≡ 72)
    at_second fetched much (IsOpeningFetch.of_header none at len) = absurd (omega (arith, none, much))
    at_second fetched much (IsOpeningFetch.of_directory h read next) = told_second h read fetched next much
    at_second fetched much (IsOpeningFetch.of_head h read entries directory choice is next) = cc

    -- the whole directory is not told, nor a byte less than the window takes
    pub takes_first : (comes : ComesToFetch None limits old offset size new) → 32 ≤ comes.fetched → comes.fetched ≤ 199 → (offset ≡ 32) × (size ≡ 168)
    takes_first comes some few = at_first comes.fetched some few comes.next

    pub takes_second : (comes : ComesToFetch None limits old offset size new) → 200 ≤ comes.fetched → (offset ≡ 200) × (size ≡ 72)
    takes_second comes much = at_second comes.fetched much comes.next
