-- A line does not tell where the units of a name are lent from.
use Rattle.std.proofs.Common.{◌≡◌, ℕ, List, Bool, true, false, ap, refl}
use Rattle.json.specs.Token.{Token}
use Rattle.mdmp_lister.specs.declared.name.Name.{Name}
use Rattle.mdmp_lister.specs.declared.name.Name.TheVariants.{Units}
use Rattle.mdmp_lister.specs.declared.item.Item.{Item}
use Rattle.mdmp_lister.specs.declared.item.Item.TheVariants as items
use Rattle.mdmp_lister.specs.Format.Item.{plain}
use Rattle.mdmp_lister.specs.Format.Name.{plain_name}
use Rattle.mdmp_print.specs.Forms.{item_line_in}
use Rattle.mdmp_print.specs.ItemLines.{name_text, item_line}
use Rattle.mdmp_print.specs.Json.{name_value, object_line}
use Rattle.mdmp_print.specs.JsonLines.{item_object}
use Rattle.mdmp_engines.specs.Symbols.{symbols_of}
use Rattle.mdmp_engines.specs.Text.{item_lines}
use Rattle.mdmp_print.specs.declared.form.LineForm.{LineForm}
use Rattle.mdmp_print.specs.declared.form.LineForm.TheVariants.{Text, Json}

name_text-plain : (n : Name) → name_text (plain_name n) ≡ name_text n
name_text-plain (Units units) = refl
name_text-plain _ = refl

-- an item and the same one with its name lent from nowhere have one line
item_line-plain : (x : Item) → item_line (plain x) ≡ item_line x
item_line-plain (items.Module m) = rw (name_text-plain m.name) refl
item_line-plain (items.Unloaded u) = rw (name_text-plain u.name) refl
item_line-plain (items.System s) = rw (name_text-plain s.name) refl
item_line-plain (items.ThreadName t) = rw (name_text-plain t.name) refl
item_line-plain _ = refl

name_value-plain : (n : Name) → name_value (plain_name n) ≡ name_value n
name_value-plain (Units units) = refl
name_value-plain _ = refl

-- and one object
item_object-plain : (x : Item) → item_object (plain x) ≡ item_object x
item_object-plain (items.Module m) = rw (name_value-plain m.name) refl
item_object-plain (items.Unloaded u) = rw (name_value-plain u.name) refl
item_object-plain (items.System s) = rw (name_value-plain s.name) refl
item_object-plain (items.ThreadName t) = rw (name_value-plain t.name) refl
item_object-plain _ = refl

item_line_in-plain : (form : LineForm) (x : Item) → item_line_in form (plain x) ≡ item_line_in form x
item_line_in-plain Text x = item_line-plain x
item_line_in-plain Json x = ap (λ (object : List Token). object_line object) (item_object-plain x)

pub symbols_of-plain : (pdb : Bool) (x : Item) → symbols_of pdb (plain x) ≡ symbols_of pdb x
symbols_of-plain false x = refl
symbols_of-plain true (items.Module m) = refl
symbols_of-plain true (items.Unloaded u) = refl
symbols_of-plain true (items.System s) = refl
symbols_of-plain true (items.ThreadName t) = refl
symbols_of-plain true _ = refl

-- nor do its lines
pub item_lines-plain : (form : LineForm) (pdb : Bool) (F : List ℕ) (limit : ℕ) (x : Item) → item_lines form pdb F limit (plain x) ≡ item_lines form pdb F limit x
item_lines-plain form pdb F limit x = rw (item_line_in-plain form x, symbols_of-plain pdb x) refl
