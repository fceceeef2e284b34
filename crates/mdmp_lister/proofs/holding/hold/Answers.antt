use Rattle.std.proofs.Common.{◌≡◌, ◌≤◌, ◌<◌, Err, arith, length, rules}
use Rattle.mdmp_lister.proofs.Fetches.{IsCaused_none}
use Rattle.mdmp_lister.proofs.Metering.{Books_none}
use Rattle.mdmp_lister.proofs.Sliding.{comes_filled, comes_moved, enough_filled, held_front, needed_held, needed_lacking, holds_failed, holds_filled, holds_held, slides_failed, slides_filled, slides_held}
use Rattle.mdmp_lister.proofs.holding.hold.Goals as goal

pub returns-in_err-fill-clause-reads : goal.returns-in_err-fill-clause-reads
returns-in_err-fill-clause-reads g c =
    let few : length c.reach.new.window.held < c.args.size = rw c.bytes.ensures at c.if-bytes-size.true in
    let need = needed_lacking c.requires c.reach.ensures few in
    let is : c.from_residual.result ≡ Err c.in_err-fill.field-0.0 = search rules in
    rw (is, need) (record { of_file = λ file known. tt; books = c.in_err-fill.ensures.books; caused = c.in_err-fill.ensures.caused; refused = search rules })

pub returns-in_err-fill-clause-comes : goal.returns-in_err-fill-clause-comes
returns-in_err-fill-clause-comes g c =
    let moved = comes_moved c.requires c.reach.ensures in
    rw c.in_err-fill.ensures.kept (record { place = moved.place; end = moved.end; room = moved.room; held = moved.held })

pub returns-in_err-fill-clause-slides : goal.returns-in_err-fill-clause-slides
returns-in_err-fill-clause-slides g c =
    let few : length c.reach.new.window.held < c.args.size = rw c.bytes.ensures at c.if-bytes-size.true in
    let is : c.from_residual.result ≡ Err c.in_err-fill.field-0.0 = search rules in
    rw is (slides_failed c.requires c.reach.ensures c.in_err-fill.field-0.0 c.fill.new.window few)

pub returns-in_ok-fill-clause-reads : goal.returns-in_ok-fill-clause-reads
returns-in_ok-fill-clause-reads g c =
    let content = c.args.meter.now.source.store.content in
    let few : length c.reach.new.window.held < c.args.size = rw c.bytes.ensures at c.if-bytes-size.true in
    let filled = c.in_ok-fill.ensures.filled in
    let need = needed_lacking c.requires c.reach.ensures few in
    let comes = comes_filled c.requires c.reach.ensures c.fill.new.window filled in
    let enough = enough_filled c.requires c.reach.ensures c.fill.new.window few filled in
    rw need (record {
      of_file = λ file known. held_front content file c.fill.new.window c.args.at c.args.size known comes.place comes.held enough;
      books = c.in_ok-fill.ensures.books;
      caused = c.in_ok-fill.ensures.caused;
      refused = tt;
    })

pub returns-in_ok-fill-clause-comes : goal.returns-in_ok-fill-clause-comes
returns-in_ok-fill-clause-comes g c =
    comes_filled c.requires c.reach.ensures c.fill.new.window c.in_ok-fill.ensures.filled

pub returns-in_ok-fill-clause-slides : goal.returns-in_ok-fill-clause-slides
returns-in_ok-fill-clause-slides g c =
    let few : length c.reach.new.window.held < c.args.size = rw c.bytes.ensures at c.if-bytes-size.true in
    slides_filled c.requires c.reach.ensures c.fill.new.window few c.in_ok-fill.ensures.filled

pub returns-else-bytes-size-clause-reads : goal.returns-else-bytes-size-clause-reads
returns-else-bytes-size-clause-reads g c =
    let content = c.args.meter.now.source.store.content in
    let enough : c.args.size ≤ length c.reach.new.window.held = omega (arith, (rw c.bytes.ensures at c.if-bytes-size.false)) in
    let need = needed_held c.requires c.reach.ensures enough in
    let comes = comes_moved c.requires c.reach.ensures in
    rw need (record {
      of_file = λ file known. held_front content file c.reach.new.window c.args.at c.args.size known comes.place comes.held enough;
      books = Books_none 0 0 c.args.meter.now;
      caused = IsCaused_none c.args.meter.now.source;
      refused = tt;
    })

pub returns-else-bytes-size-clause-comes : goal.returns-else-bytes-size-clause-comes
returns-else-bytes-size-clause-comes g c =
    comes_moved c.requires c.reach.ensures

pub returns-else-bytes-size-clause-slides : goal.returns-else-bytes-size-clause-slides
returns-else-bytes-size-clause-slides g c =
    let enough : c.args.size ≤ length c.reach.new.window.held = omega (arith, (rw c.bytes.ensures at c.if-bytes-size.false)) in
    slides_held c.requires c.reach.ensures enough

pub returns-in_err-fill-clause-tries : goal.returns-in_err-fill-clause-tries
returns-in_err-fill-clause-tries g c =
    let few : length c.reach.new.window.held < c.args.size = rw c.bytes.ensures at c.if-bytes-size.true in
    let is : c.from_residual.result ≡ Err c.in_err-fill.field-0.0 = search rules in
    rw is (holds_failed c.requires c.reach.ensures c.in_err-fill.field-0.0 c.fill.new.window c.args.meter.now c.fill.new.self few c.in_err-fill.ensures.tries)

pub returns-in_ok-fill-clause-tries : goal.returns-in_ok-fill-clause-tries
returns-in_ok-fill-clause-tries g c =
    let few : length c.reach.new.window.held < c.args.size = rw c.bytes.ensures at c.if-bytes-size.true in
    holds_filled c.requires c.reach.ensures c.fill.new.window c.args.meter.now c.fill.new.self few c.in_ok-fill.ensures.filled c.in_ok-fill.ensures.tries

pub returns-else-bytes-size-clause-tries : goal.returns-else-bytes-size-clause-tries
returns-else-bytes-size-clause-tries g c =
    let enough : c.args.size ≤ length c.reach.new.window.held = omega (arith, (rw c.bytes.ensures at c.if-bytes-size.false)) in
    holds_held c.requires c.reach.ensures c.args.meter.now enough
