use Rattle.std.proofs.Common.{◌≡◌, ◌+◌, ◌*◌, ◌∙◌, Err, arith, refl, rules, subst}
use Rattle.mdmp_lister.specs.Format.Listing.{entry_count}
use Rattle.mdmp_lister.specs.Meter.{KeepsTo}
use Rattle.mdmp_lister.proofs.Walked.{entry_cost-unused}
use Rattle.mdmp_lister.proofs.walker.Walker.open.Goals as goal

pub returns-clause-new : goal.returns-clause-new
returns-clause-new g c =
    let new = c.in_ok-walk.ensures.new in
    let w = c.in_ok-walk.walk in
    let ok = w.entries.ok.0 in
    let kept : KeepsTo c.args.limits.budget w.meter.fetched = rw (c.counts-mark.ensures.value, new.budget) at c.counts-mark.ensures.kept.kept in
    record {
      list = record {
        same_content = new.spends.fetches.same_content;
        steady = new.spends.steady;
        counts = record { budget_is = new.budget; names = new.spends.names; aside = new.spends.aside; start = new.spends.start };
        kept = kept;
        read = record {
          header_is = λ file known. new.sound.header_is file (new.spends.fetches.same_content ∙ known);
          directory = λ file known. new.sound.directory file (new.spends.fetches.same_content ∙ known);
          checked = new.reads.checked;
          inside = new.reads.placed;
          count = search rules;
        };
        asked = record { choice_is = new.choice_is; limit_is = new.name; window_room = new.window; entry_room = new.reads.room };
        whole = refl;
        memory = rw (new.window, new.name, new.reads.room) new.memory;
        given = record { left = search rules; stop = search rules; passed = new.next; standing = rw new.stage refl; unread = search rules; ranges = refl };
      };
      fetches = new.spends.fetches;
      fetched = omega (arith, ok, new.spends.fetched, new.reads.entries);
      opening = λ file known.
          let directory = new.sound.directory file (new.spends.fetches.same_content ∙ known) in
          let all : w.meter.fetched ≡ 32 + 12 * entry_count file = omega (arith, ok, new.spends.fetched, new.reads.entries, directory.count) in
          subst (KeepsTo c.args.limits.budget) all kept;
      calls = new.spends.calls;
      asked = new.spends.asked;
      range_room = refl;
      mark = c.counts-mark.ensures.value;
      position = refl;
      unbegun = entry_cost-unused _ _ new.current_is;
    }

pub returns-in_err-walk-clause-refused : goal.returns-in_err-walk-clause-refused
returns-in_err-walk-clause-refused g c =
    let of = c.in_err-walk.ensures in
    let is : c.from_residual.result ≡ Err c.in_err-walk.field-0.0 = search rules in
    rw is (record {
      refusal = of.refused.refusal;
      memory = of.refused.memory;
      over = of.over;
      handed_back = of.refused.handed_back;
      fetches = record { cause = of.refused.cause; good = of.refused.good; kept = of.kept; next = of.next };
    })
