use Rattle.std.proofs.Common.{◌≡◌, ◌≤◌, ◌∙◌, true, false, arith, sym, get_or, length}
use Rattle.mdmp_wire.specs.declared.entry.Entry.{Entry}
use Rattle.mdmp_lister.specs.Format.Listing.{is_chosen}
use Rattle.mdmp_lister.proofs.Listed.{cost_by-end, cost_by-more, cost_by-other}
use Rattle.mdmp_lister.proofs.counts.listed_bytes.Goals as goal

abbrev no_entry : Entry
no_entry = record { stream_type = 0; location = record { size = 0; rva = 0 } }

pub loop-entry-preserved-then-not-has : goal.loop-entry-preserved-then-not-has
loop-entry-preserved-then-not-has c =
    let i = c.loop-entry.invariant in
    let at = c.loop-entry.entry-index in
    let es = c.args.entries.now in
    let not : is_chosen c.args.choice.now (get_or es at no_entry).stream_type ≡ false = sym (sym c.if-not-has.true ∙ c.has.ensures) in
    let other = cost_by-other (λ d. d) c.args.choice.now c.args.size at es no_entry c.loop-entry-test.true not in
    record { counted = omega (arith, i.counted, other); bound = omega (arith, i.bound) }

pub loop-entry-preserved : goal.loop-entry-preserved
loop-entry-preserved c =
    let i = c.loop-entry.invariant in
    let at = c.loop-entry.entry-index in
    let es = c.args.entries.now in
    let has : is_chosen c.args.choice.now (get_or es at no_entry).stream_type ≡ true = sym (sym c.if-not-has.false ∙ c.has.ensures) in
    let more = cost_by-more (λ d. d) c.args.choice.now c.args.size at es no_entry c.loop-entry-test.true has in
    record {
      counted = omega (arith, i.counted, more, c.from-total.ensures, c.listed_bytes_of.ensures);
      bound = omega (arith, i.bound, c.from-total.ensures, c.listed_bytes_of.type_inv);
    }

pub returns-clause-value : goal.returns-clause-value
returns-clause-value c =
    let over : length c.args.entries.now ≤ c.loop-entry.entry-index = omega (arith, c.loop-entry-test.false) in
    omega (arith, c.loop-entry.invariant.counted, cost_by-end (λ d. d) c.args.choice.now c.args.size c.loop-entry.entry-index c.args.entries.now over)
