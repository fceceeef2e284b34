use Rattle.std.proofs.Common.{Err, Ok, [], refl}
use Rattle.mdmp_dump.specs.declared.fault.ReadFault.TheVariants.{Memory}
use Rattle.mdmp_dump.proofs.Keeping.{keeps_memory, keeps_then}
use Rattle.mdmp_dump.proofs.Walked.{all_read, awaited_going, fewer_left, given_before, given_going, more_read, more_refused, never_none, none_behind, none_read, none_refused, none_refused_behind, stream_untaken}
use Rattle.mdmp_dump.proofs.Taking.{FetchesSome_then, Fetches_as, Fetches_memory, fetches_err, refused_by}
use Rattle.mdmp_dump.proofs.ItemsRead.{parts_fail, parts_none, reads_as, reads_done, reads_memory, steps_sized, stream_in_turn}
use Rattle.mdmp_dump.proofs.read.read_streams.Goals as goal

pub returns-in_err-next-clause-fetches : goal.returns-in_err-next-clause-fetches
returns-in_err-next-clause-fetches g c =
    let r = c.in_err-next in
    let is = refused_by c.from_residual.result r.field-0.0 c.from_residual.ensures.1 in
    rw is (Fetches_as r.field-0.0 c.args.reader.now.lister.source c.behind.new.self.lister.source r.ensures.fetches)

pub returns-in_err-next-clause-of_file : goal.returns-in_err-next-clause-of_file
returns-in_err-next-clause-of_file g c =
    let r = c.in_err-next in
    let is = refused_by c.from_residual.result r.field-0.0 c.from_residual.ensures.1 in
    rw is (λ file limit xs known left. (tt, none_refused c.args.reader.now c.behind.new.self (Err r.field-0.0) r.ensures.gives r.field-0.0 refl file limit xs known left))

pub loop-next-init : goal.loop-next-init
loop-next-init g c =
    let r = c.in_ok-next in
    rw c.in-Ok.ensures.items (record {
      fetches = r.ensures.fetches.fetches;
      keeps = r.ensures.keeps;
      reads = reads_done [] _ _ tt _ _ r.ensures.reads;
      awaited = awaited_going c.args.reader.now.lister r.next c.behind.new.self.lister r.ensures.going;
      given = given_going c.args.reader.now.lister r.next c.behind.new.self.lister r.ensures.going;
      of_file = none_read c.args.reader.now c.behind.new.self (Ok r.next) r.ensures.gives r.next refl;
    })

pub returns-in_err-stream-clause-fetches : goal.returns-in_err-stream-clause-fetches
returns-in_err-stream-clause-fetches g c =
    let r = c.in_err-stream in
    let is = refused_by c.from_residual-in_err-stream.result r.field-0.0 c.from_residual-in_err-stream.ensures.1 in
    rw is (fetches_err c.args.reader.now.lister.source c.loop-next.reader.lister.source c.read_stream.new.reader.lister.source c.loop-next.invariant.fetches r.field-0.0 r.ensures.fetches)

pub returns-in_err-stream-clause-of_file : goal.returns-in_err-stream-clause-of_file
returns-in_err-stream-clause-of_file g c =
    let r = c.in_err-stream in
    let is = refused_by c.from_residual-in_err-stream.result r.field-0.0 c.from_residual-in_err-stream.ensures.1 in
    let so_far = rw c.in-Some.is at c.loop-next.invariant in
    rw is (λ file limit xs known left.
    (tt, more_refused c.args.reader.now c.loop-next.reader c.read_stream.new.reader c.loop-next.streams.items c.in-Some.item so_far file limit xs known left r.field-0.0 r.ensures.of_file))

pub returns-in-Err-clause-fetches : goal.returns-in-Err-clause-fetches
returns-in-Err-clause-fetches g c =
    Fetches_memory c.args.reader.now.lister.source c.read_stream.new.reader.lister.source
    (FetchesSome_then c.args.reader.now.lister.source c.loop-next.reader.lister.source c.read_stream.new.reader.lister.source c.loop-next.invariant.fetches c.in_ok-stream.ensures.fetches.fetches)

pub loop-next-smaller-in-Ok-push : goal.loop-next-smaller-in-Ok-push
loop-next-smaller-in-Ok-push g c = rw c.in-Some.is (fewer_left c.loop-next.reader.lister c.in-Some.item c.in_ok-stream.behind c.read_stream.new.reader.lister c.in_ok-stream.ensures.going)

pub loop-next-preserved-in-Ok-push : goal.loop-next-preserved-in-Ok-push
loop-next-preserved-in-Ok-push g c =
    let r = c.in_ok-stream in
    let mid = c.loop-next.reader in
    let new = c.read_stream.new.reader in
    let so_far = rw c.in-Some.is at c.loop-next.invariant in
    rw c.in-Ok-push.ensures.items (record {
      fetches = FetchesSome_then c.args.reader.now.lister.source mid.lister.source new.lister.source so_far.fetches r.ensures.fetches.fetches;
      keeps = keeps_then c.args.reader.now mid new so_far.keeps r.ensures.keeps;
      reads = reads_done [] _ _ tt _ _
          (steps_sized [] _ r.behind _ _ _ _ so_far.fetches.fetches.same_size (stream_in_turn tt c.in-Some.item _ _ mid.lister _ _ so_far.awaited.0 so_far.fetches.fetches.same_size so_far.reads r.ensures.reads));
      awaited = awaited_going mid.lister r.behind new.lister r.ensures.going;
      given = given_before c.args.reader.now mid new r.behind so_far.keeps r.ensures.going;
      of_file = λ file limit xs known left.
          more_read c.args.reader.now mid new c.loop-next.streams.items c.in-Some.item so_far file limit xs known left r.stream c.in-Some-stream.stream r.behind r.ensures.of_file c.in-Some-stream.is;
    })

pub loop-next-smaller : goal.loop-next-smaller
loop-next-smaller g c = rw c.in-Some.is (fewer_left c.loop-next.reader.lister c.in-Some.item c.in_ok-stream.behind c.read_stream.new.reader.lister c.in_ok-stream.ensures.going)

pub loop-next-preserved : goal.loop-next-preserved
loop-next-preserved g c =
    let r = c.in_ok-stream in
    let mid = c.loop-next.reader in
    let new = c.read_stream.new.reader in
    let so_far = rw c.in-Some.is at c.loop-next.invariant in
    record {
      fetches = FetchesSome_then c.args.reader.now.lister.source mid.lister.source new.lister.source so_far.fetches r.ensures.fetches.fetches;
      keeps = keeps_then c.args.reader.now mid new so_far.keeps r.ensures.keeps;
      reads = reads_done [] _ _ tt _ _
          (steps_sized [] _ r.behind _ _ _ _ so_far.fetches.fetches.same_size (stream_in_turn tt c.in-Some.item _ _ mid.lister _ _ so_far.awaited.0 so_far.fetches.fetches.same_size so_far.reads r.ensures.reads));
      awaited = awaited_going mid.lister r.behind new.lister r.ensures.going;
      given = given_before c.args.reader.now mid new r.behind so_far.keeps r.ensures.going;
      of_file = λ file limit xs known left.
          absurd (never_none c.args.reader.now mid new c.loop-next.streams.items c.in-Some.item so_far file limit xs known left r.stream r.behind r.ensures.of_file c.in_default-stream.is);
    }

pub returns-clause-of_file : goal.returns-clause-of_file
returns-clause-of_file g c =
    let all = rw c.in_default-next.is at c.loop-next.invariant in
    rw c.new.ensures (λ file limit xs known left.
    let read = all.of_file file limit xs known left in (
      all_read file limit xs c.args.reader.now c.loop-next.streams.items c.loop-next.reader read,
      none_refused_behind file limit xs c.args.reader.now c.loop-next.streams.items c.loop-next.reader read,
    ))

pub returns-in_err-next-clause-keeps : goal.returns-in_err-next-clause-keeps
returns-in_err-next-clause-keeps g c =
    let r = c.in_err-next in
    let is = refused_by c.from_residual.result r.field-0.0 c.from_residual.ensures.1 in
    rw is (r.ensures.keeps)

pub returns-in_err-stream-clause-keeps : goal.returns-in_err-stream-clause-keeps
returns-in_err-stream-clause-keeps g c =
    let r = c.in_err-stream in
    let is = refused_by c.from_residual-in_err-stream.result r.field-0.0 c.from_residual-in_err-stream.ensures.1 in
    let so_far = rw c.in-Some.is at c.loop-next.invariant in
    rw is (stream_untaken c.args.reader.now c.loop-next.reader c.read_stream.new.reader c.in-Some.item so_far.keeps so_far.given r.field-0.0 r.ensures.keeps)

pub returns-in-Err-clause-keeps : goal.returns-in-Err-clause-keeps
returns-in-Err-clause-keeps g c =
    keeps_memory c.args.reader.now c.read_stream.new.reader
    (keeps_then c.args.reader.now c.loop-next.reader c.read_stream.new.reader c.loop-next.invariant.keeps c.in_ok-stream.ensures.keeps)

pub returns-in_err-next-clause-reads : goal.returns-in_err-next-clause-reads
returns-in_err-next-clause-reads g c =
    let r = c.in_err-next in
    let is = refused_by c.from_residual.result r.field-0.0 c.from_residual.ensures.1 in
    rw is (reads_as [] r.field-0.0 _ _ r.ensures.reads)

pub returns-in_err-stream-clause-reads : goal.returns-in_err-stream-clause-reads
returns-in_err-stream-clause-reads g c =
    let r = c.in_err-stream in
    let is = refused_by c.from_residual-in_err-stream.result r.field-0.0 c.from_residual-in_err-stream.ensures.1 in
    let so_far = rw c.in-Some.is at c.loop-next.invariant in
    rw is (reads_as [] r.field-0.0 _ _ (stream_in_turn tt c.in-Some.item _ _ c.loop-next.reader.lister _ [] so_far.awaited.0 so_far.fetches.fetches.same_size so_far.reads r.ensures.reads))

pub returns-in-Err-clause-reads : goal.returns-in-Err-clause-reads
returns-in-Err-clause-reads g c =
    let r = c.in_ok-stream in
    let so_far = rw c.in-Some.is at c.loop-next.invariant in
    reads_memory [] _ _ _ _ (stream_in_turn tt c.in-Some.item _ _ c.loop-next.reader.lister _ _ so_far.awaited.0 so_far.fetches.fetches.same_size so_far.reads r.ensures.reads)

pub returns-clause-reads : goal.returns-clause-reads
returns-clause-reads g c =
    let all = rw c.in_default-next.is at c.loop-next.invariant in
    reads_done [] [] tt _ _ _ all.reads

pub returns-clause-whole : goal.returns-clause-whole
returns-clause-whole g c =
    let all = rw c.in_default-next.is at c.loop-next.invariant in
    λ file limit xs known left. none_behind file limit xs c.args.reader.now c.loop-next.streams.items c.loop-next.reader (all.of_file file limit xs known left)

pub returns-in_default-clause-reads : goal.returns-in_default-clause-reads
returns-in_default-clause-reads g c = parts_fail [] Memory _ _ (λ is. is) (parts_none [] c.args.reader.now.lister)
