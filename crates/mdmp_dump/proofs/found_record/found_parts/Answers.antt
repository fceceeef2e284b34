use Rattle.mdmp_dump.proofs.Taking.{refused_by}
use Rattle.mdmp_dump.proofs.Founding.{step_first, step_found, step_second, step_third}
use Rattle.mdmp_dump.proofs.Rooms.{bare_fits}
use Rattle.mdmp_dump.proofs.found_record.found_parts.Goals as goal

pub returns-in_err-first-clause-finds : goal.returns-in_err-first-clause-finds
returns-in_err-first-clause-finds c = λ F len.
    let fault = c.in_err-first.field-0.0 in
    let same = refused_by c.from_residual.result fault c.from_residual.ensures.1 in
    let first = rw c.slots.ensures at (c.in_err-first.ensures.finds F len) in
    rw same (step_first F c.args.limit c.args.read.now fault first)

pub returns-in_err-second-clause-finds : goal.returns-in_err-second-clause-finds
returns-in_err-second-clause-finds c = λ F len.
    let fault = c.in_err-second.field-0.0 in
    let same = refused_by c.from_residual-in_err-second.result fault c.from_residual-in_err-second.ensures.1 in
    let first = rw c.slots.ensures at (c.in_ok-first.ensures.finds F len) in
    let second = rw c.slots.ensures at (c.in_err-second.ensures.finds F len) in
    rw same (step_second F c.args.limit c.args.read.now c.in_ok-first.first fault first second)

pub returns-in_err-third-clause-finds : goal.returns-in_err-third-clause-finds
returns-in_err-third-clause-finds c = λ F len.
    let fault = c.in_err-third.field-0.0 in
    let same = refused_by c.from_residual-in_err-third.result fault c.from_residual-in_err-third.ensures.1 in
    let first = rw c.slots.ensures at (c.in_ok-first.ensures.finds F len) in
    let second = rw c.slots.ensures at (c.in_ok-second.ensures.finds F len) in
    let third = rw c.slots.ensures at (c.in_err-third.ensures.finds F len) in
    rw same (step_third F c.args.limit c.args.read.now c.in_ok-first.first c.in_ok-second.second fault first second third)

pub returns-clause-finds : goal.returns-clause-finds
returns-clause-finds c = λ F len.
    let first = rw c.slots.ensures at (c.in_ok-first.ensures.finds F len) in
    let second = rw c.slots.ensures at (c.in_ok-second.ensures.finds F len) in
    let third = rw c.slots.ensures at (c.in_ok-third.ensures.finds F len) in
    rw c.bare.ensures (step_found F c.args.limit c.args.read.now c.in_ok-first.first c.in_ok-second.second c.in_ok-third.third first second third)

pub returns-clause-fits : goal.returns-clause-fits
returns-clause-fits c =
    let first = rw c.slots.ensures at c.in_ok-first.ensures.fits in
    let second = rw c.slots.ensures at c.in_ok-second.ensures.fits in
    let third = rw c.slots.ensures at c.in_ok-third.ensures.fits in
    rw c.bare.ensures (bare_fits c.args.read.now.fields c.in_ok-first.first c.in_ok-second.second c.in_ok-third.third first second third)
