-- What `list` prints.
use Rattle.std.specs.Prelude.{ℕ, List, [], ◌++◌, Bool, Option, Some, None, take}
use Rattle.std.specs.List.{flat_map}
use Rattle.mdmp_wire.specs.CodeView.{codeview_of}
use Rattle.mdmp_wire.specs.Header.{header_at}
use Rattle.mdmp_lister.specs.declared.choice.Choice.TheVariants.{All}
use Rattle.mdmp_lister.specs.declared.item.Item.{Item}
use Rattle.mdmp_lister.specs.CodeView.{codeview_head_of}
use Rattle.mdmp_lister.specs.Format.Listing.{Run, listing}
use Rattle.mdmp_lister.specs.Format.Refusal.{opening_fault}
use Rattle.mdmp_engines.specs.Engines.{unless_refused}
use Rattle.mdmp_print.specs.Forms.{dump_line_in, item_line_in, pdb_line_in}
use Rattle.mdmp_engines.specs.Symbols.{symbols_of}
use Rattle.mdmp_engines.specs.declared.list.ModuleSymbols.{ModuleSymbols}
use Rattle.mdmp_print.specs.declared.form.LineForm.{LineForm}

-- the line of a CodeView record of F, of whose name at most `limit` bytes are fetched
abbrev pub symbols_text : LineForm → List ℕ → ℕ → Option ModuleSymbols → List ℕ
symbols_text form F limit None = []
symbols_text form F limit (Some of) = pdb_line_in form of.place.entry of.place.index (codeview_head_of F of.location) (codeview_of F of.location limit)

-- the line of an item, and behind it that of its CodeView record
abbrev pub item_lines : LineForm → Bool → List ℕ → ℕ → Item → List ℕ
item_lines form pdb F limit item = item_line_in form item ++ symbols_text form F limit (symbols_of pdb item)

-- those of each item
abbrev pub run_text : LineForm → Bool → List ℕ → ℕ → Run → List ℕ
run_text form pdb F limit run = flat_map (item_lines form pdb F limit) run.items

-- those of the first item that is left, if there is one
abbrev pub next_lines : LineForm → Bool → List ℕ → ℕ → Run → List ℕ
next_lines form pdb F limit left = flat_map (item_lines form pdb F limit) (take 1 left.items)

-- the dump line, and the lines of each item of the listing, whose names of more than `limit` bytes are told by their length
abbrev pub list_text : LineForm → Bool → List ℕ → ℕ → List ℕ
list_text form pdb F limit =
    unless_refused (opening_fault F All) (dump_line_in form (header_at F 0) ++ run_text form pdb F limit (listing F All limit))
