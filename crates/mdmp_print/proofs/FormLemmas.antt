-- Lines in either form.
use Rattle.std.proofs.Common.{◌≡◌, refl}
use Rattle.mdmp_wire.specs.declared.header.Header.{Header}
use Rattle.mdmp_lister.specs.declared.item.Item.{Item}
use Rattle.mdmp_print.specs.Forms.{dump_line_in, in_form, item_line_in}
use Rattle.mdmp_print.specs.ItemLines.{item_line}
use Rattle.mdmp_print.specs.Json.{object_line}
use Rattle.mdmp_print.specs.JsonLines.{dump_object, item_object}
use Rattle.mdmp_print.specs.Lines.{dump_line}
use Rattle.mdmp_print.specs.declared.form.LineForm.{LineForm}
use Rattle.mdmp_print.specs.declared.form.LineForm.TheVariants.{Json, Text}

pub in_dump : (form : LineForm) (header : Header) → in_form form (dump_line header) (object_line (dump_object header)) ≡ dump_line_in form header
in_dump Text header = refl
in_dump Json header = refl

pub in_item : (form : LineForm) (item : Item) → in_form form (item_line item) (object_line (item_object item)) ≡ item_line_in form item
in_item Text item = refl
in_item Json item = refl
