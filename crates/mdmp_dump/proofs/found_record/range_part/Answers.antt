use Rattle.std.proofs.Common.{◌≡◌, ◌∙◌, Ok, ap, length, subst, sym}
use Rattle.mdmp_source.specs.declared.location.Extent.{Extent}
use Rattle.mdmp_source.specs.declared.location.Extent.TheVariants.{Empty, Inside}
use Rattle.mdmp_lister.specs.Format.Item.{range_extent_of}
use Rattle.mdmp_dump.specs.declared.view.PartSize.TheVariants.{Size}
use Rattle.mdmp_dump.proofs.Limits.{range_empty, range_found_at, range_inside}
use Rattle.mdmp_dump.proofs.found_record.range_part.Goals as goal

pub returns-in-Empty-clause-finds : goal.returns-in-Empty-clause-finds
returns-in-Empty-clause-finds c = λ F len.
    let r = c.args.read.now in
    let at : range_extent_of r.offset c.args.bytes c.args.size ≡ Empty = sym c.range_extent.ensures ∙ c.in-Empty.is in
    let here : range_extent_of r.offset c.args.bytes (length F) ≡ Empty = ap (range_extent_of r.offset c.args.bytes) len ∙ at in
    subst (λ (y : Extent). range_found_at F r.entry r.index r.offset c.args.bytes y (Ok (record { size = Size 0; at = 0 }))) (sym at) (range_empty F r.entry r.index r.offset c.args.bytes here)

pub returns-in-Inside-clause-finds : goal.returns-in-Inside-clause-finds
returns-in-Inside-clause-finds c = λ F len.
    let r = c.args.read.now in
    let at : range_extent_of r.offset c.args.bytes c.args.size ≡ Inside = sym c.range_extent.ensures ∙ c.in-Inside.is in
    let here : range_extent_of r.offset c.args.bytes (length F) ≡ Inside = ap (range_extent_of r.offset c.args.bytes) len ∙ at in
    subst (λ (y : Extent). range_found_at F r.entry r.index r.offset c.args.bytes y (Ok (record { size = Size c.args.bytes; at = r.offset }))) (sym at) (range_inside F r.entry r.index r.offset c.args.bytes here)
