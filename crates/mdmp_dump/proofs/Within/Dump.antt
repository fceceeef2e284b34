-- A file that lays out a dump within limits is not refused.
use Rattle.std.proofs.Common.{◌≡◌, ◌∙◌, ◌+◌, ◌≤◌, ℕ, false, List, [], ◌∷◌, length, None, ap, ap₂, arith, le-ltb, nat_lt, refl, subst, sym}
use Rattle.std.specs.Prelude.{All, option_map, sum_by}
use Rattle.std.proofs.lemmas.List.Elements.{All-cons, All-head, All-tail}
use Rattle.std.proofs.lemmas.List.Sums.{sum_by-cons}
use Rattle.mdmp_source.specs.declared.location.Location.{Location}
use Rattle.mdmp_wire.specs.declared.entry.Entry.{Entry}
use Rattle.mdmp_lister.specs.declared.choice.Choice.{Choice}
use Rattle.mdmp_lister.specs.declared.kind.StreamKind.TheVariants as kinds
use Rattle.mdmp_lister.specs.Format.Kind.{kind_of, type_of_kind}
use Rattle.mdmp_lister.specs.Format.Listing.{Numbered, Run, chosen, entry_listing, listing}
use Rattle.mdmp_lister.specs.Format.Numbers.{good_count, range_count, ranges_in, ranges_of_all}
use Rattle.mdmp_lister.specs.Format.Refusal.{most_ranges, opening_fault}
use Rattle.mdmp_dump.specs.declared.fault.ReadFault.TheVariants as faults
use Rattle.mdmp_dump.specs.declared.dump.Stream.{Stream}
use Rattle.mdmp_dump.specs.declared.dump.Stream.TheVariants as streams
use Rattle.mdmp_dump.specs.declared.dump.Dump.{Dump}
use Rattle.mdmp_dump.specs.LaysOut.{AreStreams, LaysOut, StandsAt}
use Rattle.mdmp_dump.specs.Left.{run_of}
use Rattle.mdmp_dump.specs.Refusal.{opened_refusal, read_refusal, run_refusal}
use Rattle.mdmp_dump.specs.declared.system.System.{System}
use Rattle.mdmp_dump.specs.Value.{type_of}
use Rattle.mdmp_dump.specs.Within.{IsNameWithin, IsWithinLimits, NamesWithin, memory_ranges, part_bytes}
use Rattle.mdmp_dump.proofs.Within.Exception.{exception_taken}
use Rattle.mdmp_dump.proofs.Within.Memory.{memory_taken}
use Rattle.mdmp_dump.proofs.Within.Memory64.{memory64_taken}
use Rattle.mdmp_dump.proofs.Within.Module.{module_taken}
use Rattle.mdmp_dump.proofs.Within.Records.{entry_taken, entry_unasked, raw_taken, records_counted, sum_by-none}
use Rattle.mdmp_dump.proofs.Within.Runs.{IsRunTaken, item_taken, joined_taken, nothing_taken}
use Rattle.mdmp_dump.proofs.Within.Steps.{last_refused, none_taken}
use Rattle.mdmp_dump.proofs.Within.System.{system_taken}
use Rattle.mdmp_dump.proofs.Within.Thread.{thread_taken}
use Rattle.mdmp_dump.proofs.Within.ThreadName.{thread_name_taken}
use Rattle.mdmp_dump.proofs.Within.Unloaded.{unloaded_taken}

-- a run whose steps are taken within the limit is not refused
run_unrefused : (F : List ℕ) (limit bytes : ℕ) (run : Run) → IsRunTaken (length F) run bytes → bytes ≤ limit → run_refusal F limit run ≡ None
run_unrefused F limit bytes run is room = last_refused is.steps limit (option_map faults.List run.fault) room ∙ ap (option_map faults.List) is.good

module _ {Z : Type 0} (F : List ℕ) where
  -- ---- an entry and its stream

  -- an entry of the stream's own type
  abbrev entry_of_stream : Location → Stream Z → Entry
  entry_of_stream at s = record { stream_type = type_of s; location = at }

  -- what it gives asks for the stream's bytes
  stands_taken : (limit e : ℕ) (at : Location) (s : Stream Z) → StandsAt F at s → NamesWithin limit s
      → IsRunTaken (length F) (entry_listing F limit (record { number = e; entry = entry_of_stream at s })) (part_bytes s)
  stands_taken limit e at streams.Unused has names = item_taken none_taken nothing_taken
  stands_taken limit e at (streams.Threads xs) has names = entry_taken F at kinds.Threads _ xs has _ refl limit e _ _ (thread_taken F limit e at.rva) (λ k d lt. tt) _ refl
  stands_taken limit e at (streams.Modules xs) has names = entry_taken F at kinds.Modules _ xs has _ refl limit e _ _ (module_taken F limit e at.rva) names _ refl
  stands_taken limit e at (streams.Memory xs) has names = entry_taken F at kinds.Memory _ xs has _ refl limit e _ _ (memory_taken F limit e at.rva) (λ k d lt. tt) _ refl
  stands_taken limit e at (streams.Exception x) has names = entry_taken F at kinds.Exception _ (x ∷ []) has _ refl limit e _ _ (exception_taken F limit e at.rva) (λ k d lt. tt) _ (omega arith)
  stands_taken limit e at (streams.System x) has names = entry_taken F at kinds.System _ (x ∷ []) has _ refl limit e _ _ (system_taken F limit e at.rva) (All-cons (λ (y : System Z). IsNameWithin limit y.name) x [] names (λ k d lt. absurd (omega (arith, lt)))) _ refl
  stands_taken limit e at (streams.Memory64 xs) has names = entry_taken F at kinds.Memory64 _ xs has _ refl limit e _ _ (memory64_taken F limit e at.rva) (λ k d lt. tt) _ refl
  stands_taken limit e at (streams.Unloaded xs) has names = entry_taken F at kinds.Unloaded _ xs has _ refl limit e _ _ (unloaded_taken F limit e at.rva) names _ (sum_by-none xs)
  stands_taken limit e at (streams.MemoryInfo xs) has names = entry_unasked F at kinds.MemoryInfo _ xs has _ refl limit e (λ k o. record { item = _; given = refl; steps = none_taken })
  stands_taken limit e at (streams.ThreadNames xs) has names = entry_taken F at kinds.ThreadNames _ xs has _ refl limit e _ _ (thread_name_taken F limit e at.rva) names _ (sum_by-none xs)
  stands_taken limit e at (streams.Raw t bytes) has names = raw_taken F limit e at t bytes has

  -- and it has the stream's ranges
  stands_ranged : (at : Location) (s : Stream Z) → StandsAt F at s → ranges_in F (entry_of_stream at s) (kind_of (type_of s)) ≡ memory_ranges s
  stands_ranged at (streams.Memory xs) has = ap good_count (records_counted F at kinds.Memory _ xs has (type_of_kind kinds.Memory) refl)
  stands_ranged at (streams.Memory64 xs) has = ap good_count (records_counted F at kinds.Memory64 _ xs has (type_of_kind kinds.Memory64) refl)
  stands_ranged at (streams.Raw t bytes) has = rw has.opaque refl
  stands_ranged at s has = refl

  -- ---- all entries and their streams

  -- what they give asks for the bytes of all streams
  streams_taken : (limit : ℕ) (xs : List Numbered) (ss : List (Stream Z)) → AreStreams F xs ss → All (NamesWithin limit) ss
      → IsRunTaken (length F) (run_of F limit xs) (sum_by part_bytes ss)
  streams_taken limit [] [] are names = nothing_taken
  streams_taken limit [] (s ∷ ss) are names = absurd are
  streams_taken limit (x ∷ xs) [] are names = absurd are
  streams_taken limit (x ∷ xs) (s ∷ ss) are names =
      let of_type = stands_taken limit x.number x.entry.location s are.0.stands (All-head (NamesWithin limit) s ss names) in
      let first : IsRunTaken (length F) (entry_listing F limit x) (part_bytes s) =
      subst (λ (t : ℕ). IsRunTaken (length F) (entry_listing F limit (record { number = x.number; entry = record { stream_type = t; location = x.entry.location } })) (part_bytes s)) (sym are.0.type_is) of_type in
      let rest = streams_taken limit xs ss are.1 (All-tail (NamesWithin limit) s ss names) in
      subst (λ (n : ℕ). IsRunTaken (length F) (run_of F limit (x ∷ xs)) n) (sym (sum_by-cons part_bytes s ss)) (joined_taken first rest)

  -- and they have the ranges of all streams
  streams_ranged : (xs : List Numbered) (ss : List (Stream Z)) → AreStreams F xs ss → ranges_of_all F xs ≡ sum_by memory_ranges ss
  streams_ranged [] [] are = refl
  streams_ranged [] (s ∷ ss) are = absurd are
  streams_ranged (x ∷ xs) [] are = absurd are
  streams_ranged (x ∷ xs) (s ∷ ss) are =
      let first : ranges_in F x.entry (kind_of x.entry.stream_type) ≡ memory_ranges s =
      subst (λ (t : ℕ). ranges_in F (record { stream_type = t; location = x.entry.location }) (kind_of t) ≡ memory_ranges s) (sym are.0.type_is) (stands_ranged x.entry.location s are.0.stands) in
      sum_by-cons (λ (y : Numbered). ranges_in F y.entry (kind_of y.entry.stream_type)) x xs
      ∙ ap₂ (λ (m n : ℕ). m + n) first (streams_ranged xs ss are.1)
      ∙ sym (sum_by-cons memory_ranges s ss)

  -- ---- the whole

  -- a file with a header, a directory inside it and not too many ranges opens
  opens : (choice : Choice) (d : Dump Z) → LaysOut F choice d → sum_by memory_ranges d.streams ≤ most_ranges → opening_fault F choice ≡ None
  opens choice d lays few =
      let long : nat_lt (length F) 32 ≡ false = le-ltb _ _ lays.header.room in
      let inside = lays.directory in
      let all : range_count F choice ≡ sum_by memory_ranges d.streams = streams_ranged (chosen F choice) d.streams lays.streams in
      let short : nat_lt most_ranges (range_count F choice) ≡ false = le-ltb _ _ (rw all few) in
      rw (long, lays.header.signature, lays.header.version, inside, short) refl

  -- the file of a dump within limits has no refusal
  pub unrefused : (choice : Choice) (name_limit part_limit : ℕ) (d : Dump Z) → LaysOut F choice d → IsWithinLimits name_limit part_limit d
      → read_refusal F choice name_limit part_limit ≡ None
  unrefused choice name_limit part_limit d lays within =
      let run = streams_taken name_limit (chosen F choice) d.streams lays.streams within.names in
      ap (opened_refusal F choice name_limit part_limit) (opens choice d lays within.ranges)
      ∙ run_unrefused F part_limit (sum_by part_bytes d.streams) (listing F choice name_limit) run within.parts
