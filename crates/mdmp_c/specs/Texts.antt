-- What the calls tell that give a text.
use Rattle.std.specs.Prelude.{◌≡◌, ℕ, Bool, List}
use Rattle.mdmp_c.specs.declared.fault.PlainFault.{PlainFault}
use Rattle.mdmp_c.specs.Fault.{list_told, told_unless}
use Rattle.mdmp_c.specs.ToolFault.{bad_entries}
use Rattle.mdmp_lister.specs.declared.choice.Choice.TheVariants.{All}
use Rattle.mdmp_lister.specs.Format.Listing.{listing, verdicts}
use Rattle.mdmp_lister.specs.Format.Refusal.{opening_fault}
use Rattle.mdmp_engines.specs.CheckText.{bad_count, check_text}
use Rattle.mdmp_engines.specs.Text.{list_text}
use Rattle.mdmp_print.specs.declared.form.LineForm.{LineForm}

-- why F can't be opened, or how many of its entries have a fault; and the line of each entry, in this form
pub record IsCheck (form : LineForm) (F : List ℕ) (limit : ℕ) (told : PlainFault) (text : List ℕ) : Type 0 where
  pub told_is : told ≡ told_unless (opening_fault F All) (bad_entries (bad_count (verdicts F All limit)))
  pub text_is : text ≡ check_text form F limit

-- why F can't be opened, or the first fault of its listing; and the lines of its items up to there, in this form
pub record IsList (form : LineForm) (pdb : Bool) (F : List ℕ) (limit : ℕ) (told : PlainFault) (text : List ℕ) : Type 0 where
  pub told_is : told ≡ told_unless (opening_fault F All) (list_told (listing F All limit).fault)
  pub text_is : text ≡ list_text form pdb F limit
