use Rattle.std.proofs.Common.{subst}
use Rattle.mdmp_lister.specs.declared.choice.Choice.{Choice}
use Rattle.mdmp_c.specs.Giving.{Ends, bad_limits}
use Rattle.mdmp_c.specs.Limits.{AreLimits, EndsListing, KeepsListing}
use Rattle.mdmp_c.specs.Rows.{region_row}
use Rattle.mdmp_c.specs.Table.{IsTable}
use Rattle.mdmp_c.proofs.records.mdmp_regions_.Goals as goal

pub returns : goal.returns
returns c =
    subst
    (λ (choice : Choice). Ends (IsTable region_row c.args.file.now choice c.args.limits.now.name) (AreLimits c.args.limits.now) (KeepsListing c.args.limits.now c.args.file.now choice) (EndsListing c.args.limits.now c.args.file.now choice) bad_limits c.give_rows.result c.give_rows.new.count
    c.give_rows.new.fault c.args.out.now c.give_rows.new.out)
    c.only.ensures c.give_rows.ensures
