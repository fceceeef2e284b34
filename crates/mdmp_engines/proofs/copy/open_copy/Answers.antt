use Rattle.std.proofs.Common.{rules, ◌≡◌, Err, arith, refl}
use Rattle.mdmp_lister.specs.declared.choice.Choice.TheVariants.{Types}
use Rattle.mdmp_dump.proofs.Refusals.{view_opens}
use Rattle.mdmp_engines.proofs.Copying.{memory_viewed, view_spent}
use Rattle.mdmp_engines.proofs.copy.open_copy.Goals as goal

pub returns-in_default-clause-refused : goal.returns-in_default-clause-refused
returns-in_default-clause-refused g c = record {
  refusal = tt;
  good = λ file good. refl;
  tells = record {
    memory = λ is file known. view_opens file (Types c.args.types) c.args.limits.name (c.in_ok-view.ensures.refuses file known);
    changed = tt;
  };
  limited = memory_viewed c.args.limits c.args.source.store.content c.in_ok-view.view.sound c.args.source refl c.in_ok-view.ensures.new.fetches c.in_ok-view.ensures.new.within;
  over = λ file known. record { short = tt; place = tt };
}

pub returns-in_default-clause-handed_back : goal.returns-in_default-clause-handed_back
returns-in_default-clause-handed_back g c =
    let view = c.in_ok-view.view in
    let new = c.in_ok-view.ensures.new in
    let costs = c.in_ok-view.ensures.costs in
    let left = c.into_source.ensures in
    record {
      cause = rw left.value (record { fetches = new.fetches; told = tt; good = λ file good. refl; refusal = tt });
      spends = view_spent view.sound c.args.source c.into_source.result (Types c.args.types) new.choice_is new.fetches new.counted (omega (arith, left.spent, new.start, new.passed, new.asked)) costs.cost;
      within = λ most is. omega (arith, left.booked, costs.kept most is, new.start);
    }

pub returns-in_err-view : goal.returns-in_err-view
returns-in_err-view g c =
    let of = c.in_err-view.ensures in
    let refused = c.in_err-view.field-0.0 in
    let is : c.from_residual.result ≡ Err refused = search rules in
    rw is (record { views = tt; refuses = of.refuses; short = of.short; new = tt; buffer = tt; held = tt; costs = tt; refused = of.refused; handed_back = of.handed_back })

pub returns-clause-views : goal.returns-clause-views
returns-clause-views g c = c.in_ok-view.ensures.views

pub returns-clause-refuses : goal.returns-clause-refuses
returns-clause-refuses g c = c.in_ok-view.ensures.refuses

pub returns-clause-short : goal.returns-clause-short
returns-clause-short g c = c.in_ok-view.ensures.short

pub returns-clause-new : goal.returns-clause-new
returns-clause-new g c = c.in_ok-view.ensures.new

pub returns-clause-costs : goal.returns-clause-costs
returns-clause-costs g c = c.in_ok-view.ensures.costs
