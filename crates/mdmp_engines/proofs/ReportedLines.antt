-- Lines that were told.
use Rattle.std.proofs.Common.{◌⊎◌, ℕ, List, inl, inr}
use Rattle.std.specs.Prelude.{Result, Ok, Err}
use Rattle.mdmp_source.specs.Output.{OutState, Puts, PutsAll, PutsPrefix}
use Rattle.mdmp_print.specs.Lines.{error_line}
use Rattle.mdmp_engines.specs.Reports.{IsLineTold}

-- a text went out, or a first part of it
pub either-put : {T E : Type 0} (r : Result T E) (before after : OutState) (text : List ℕ) → Puts r before text after → PutsAll before text after ⊎ PutsPrefix before text after
either-put (Ok x) before after text put = inl put
either-put (Err e) before after text put = inr put

pub IsLineTold-put : {T E : Type 0} (r : Result T E) (before after : OutState) (text : List ℕ) → Puts r before (error_line text) after → IsLineTold before text after
IsLineTold-put r before after text put = either-put r before after (error_line text) put
