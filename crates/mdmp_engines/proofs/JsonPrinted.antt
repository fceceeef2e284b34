-- What `list` and `check` print for programs is JSON Lines.
use Rattle.std.proofs.Common.{ℕ, ◌<◌, ◌^◌, Bool, true, false, List, [], ◌∷◌, ◌++◌, Option, Some, None, refl, ap₂, sym, ◌∙◌, append-nil}
use Rattle.std.specs.List.{All, Contains, flat_map}
use Rattle.std.proofs.lemmas.Grind.{flat_map-append}
use Rattle.std.proofs.lemmas.List.Elements.{All-append, All-cons, All-contains, All-head, All-nil, All-tail}
use Rattle.std.proofs.lemmas.List.Folds.{flat_map-map}
use Rattle.json.specs.Token.{Token}
use Rattle.mdmp_source.specs.Store.{AreBytes}
use Rattle.mdmp_source.specs.declared.location.Extent.{Extent}
use Rattle.mdmp_source.specs.declared.location.Extent.TheVariants.{Inside}
use Rattle.mdmp_wire.specs.Header.{header_at}
use Rattle.mdmp_lister.specs.declared.choice.Choice.{Choice}
use Rattle.mdmp_lister.specs.declared.choice.Choice.TheVariants.{All as EveryType}
use Rattle.mdmp_lister.specs.declared.fault.OpenFault.{OpenFault}
use Rattle.mdmp_lister.specs.declared.item.Item.{Item}
use Rattle.mdmp_lister.specs.declared.item.Item.TheVariants as items
use Rattle.mdmp_lister.specs.Format.Listing.{listing, verdicts}
use Rattle.mdmp_lister.specs.Format.Refusal.{opening_fault}
use Rattle.mdmp_summary.specs.CheckRows.{check_rows}
use Rattle.mdmp_engines.specs.CheckParts.{parts_text}
use Rattle.mdmp_engines.specs.CheckText.{check_text}
use Rattle.mdmp_engines.specs.Engines.{unless_refused}
use Rattle.mdmp_print.specs.Forms.{dump_line_in}
use Rattle.mdmp_print.specs.Json.{object_line}
use Rattle.mdmp_engines.specs.JsonLaws.{AreJsonLines, IsJsonLine, check_objects, item_objects, list_objects, objects_unless_refused, parts_objects, symbols_objects}
use Rattle.mdmp_print.specs.JsonLines.{dump_object, item_object, verdict_object}
use Rattle.mdmp_engines.specs.Symbols.{inside_only, symbols_of}
use Rattle.mdmp_engines.specs.Text.{item_lines, list_text, symbols_text}
use Rattle.mdmp_engines.specs.declared.list.ModuleSymbols.{ModuleSymbols}
use Rattle.mdmp_engines.proofs.JsonListings.{HasSmallSymbols, IsPrinted, listing-printed, verdicts-lines}
use Rattle.mdmp_engines.proofs.JsonObjects.{dump-line, pdb-line}
use Rattle.mdmp_engines.proofs.JsonParts.{check_rows-lines, rows-objects}
use Rattle.mdmp_print.specs.declared.form.LineForm.TheVariants.{Json}

-- ---- lines of objects

unless-lines : (refusal : Option OpenFault) (text : List ℕ) (objects : List (List Token)) → AreJsonLines text objects
    → AreJsonLines (unless_refused refusal text) (objects_unless_refused refusal objects)
unless-lines None text objects h = h
unless-lines (Some fault) text objects h = record { lines = refl; each = All-nil IsJsonLine }

one-line : (tokens : List Token) → IsJsonLine tokens → AreJsonLines (object_line tokens) (tokens ∷ [])
one-line tokens h = record { lines = sym (append-nil (object_line tokens)); each = All-cons IsJsonLine tokens [] h (All-nil IsJsonLine) }

no-lines : AreJsonLines [] []
no-lines = record { lines = refl; each = All-nil IsJsonLine }

more-lines : (s t : List ℕ) (xs ys : List (List Token)) → AreJsonLines s xs → AreJsonLines t ys → AreJsonLines (s ++ t) (xs ++ ys)
more-lines s t xs ys h k = record {
  lines = ap₂ (λ (a b : List ℕ). a ++ b) h.lines k.lines ∙ sym (flat_map-append object_line xs ys);
  each = All-append IsJsonLine xs ys h.each k.each;
}

-- ---- those of a file

module _ (F : List ℕ) (bytes : AreBytes F) where
  pub header-lines : AreJsonLines (dump_line_in Json (header_at F 0)) (dump_object (header_at F 0) ∷ [])
  header-lines = one-line (dump_object (header_at F 0)) (dump-line F bytes 0)

  module _ (pdb : Bool) (limit : ℕ) where
    inside-lines : (class : Extent) (symbols : ModuleSymbols) → symbols.place.entry < 2 ^ 64 → symbols.place.index < 2 ^ 64 → symbols.location.size < 2 ^ 64
        → AreJsonLines (symbols_text Json F limit (inside_only class symbols)) (symbols_objects F limit (inside_only class symbols))
    inside-lines Inside symbols e i s = one-line _ (pdb-line F bytes symbols.place.entry symbols.place.index limit symbols.location e i s)
    inside-lines class symbols e i s = no-lines

    symbols-lines : (told : Bool) (item : Item) → HasSmallSymbols item
        → AreJsonLines (symbols_text Json F limit (symbols_of told item)) (symbols_objects F limit (symbols_of told item))
    symbols-lines true (items.Module m) h =
        inside-lines m.codeview (record { place = record { entry = m.entry; index = m.index }; location = m.fields.cv_record }) h.0 h.1 h.2
    symbols-lines true item h = no-lines
    symbols-lines false item h = no-lines

    printed-lines : (item : Item) → IsPrinted item → AreJsonLines (item_lines Json pdb F limit item) (item_objects pdb F limit item)
    printed-lines item h =
        more-lines (object_line (item_object item)) _ (item_object item ∷ []) _ (one-line (item_object item) h.0) (symbols-lines pdb item h.1.0)

    items-lines : (xs : List Item) → All IsPrinted xs → AreJsonLines (flat_map (item_lines Json pdb F limit) xs) (flat_map (item_objects pdb F limit) xs)
    items-lines [] h = no-lines
    items-lines (item ∷ xs) h =
        more-lines (item_lines Json pdb F limit item) _ (item_objects pdb F limit item) _
        (printed-lines item (All-head IsPrinted item xs h)) (items-lines xs (All-tail IsPrinted item xs h))

    pub item-lines : (choice : Choice) (item : Item) → Contains (listing F choice limit).items item
        → AreJsonLines (item_lines Json pdb F limit item) (item_objects pdb F limit item)
    item-lines choice item h = printed-lines item (All-contains IsPrinted (listing F choice limit).items item (listing-printed F bytes limit choice) h)

    pub list-lines : AreJsonLines (list_text Json pdb F limit) (list_objects pdb F limit)
    list-lines =
        let run = listing F EveryType limit in
        unless-lines (opening_fault F EveryType) _ _ (
        more-lines (dump_line_in Json (header_at F 0)) _ (dump_object (header_at F 0) ∷ []) _ header-lines (items-lines run.items (listing-printed F bytes limit EveryType)))

  pub check_parts-lines : (limit : ℕ) → AreJsonLines (parts_text Json F limit) (parts_objects F limit)
  check_parts-lines limit = unless-lines (opening_fault F EveryType) _ _ (record {
    lines = rows-objects (check_rows F limit);
    each = check_rows-lines F bytes limit;
  })

  pub check-lines : (limit : ℕ) → AreJsonLines (check_text Json F limit) (check_objects F limit)
  check-lines limit = unless-lines (opening_fault F EveryType) _ _ (record {
    lines = sym (flat_map-map object_line verdict_object (verdicts F EveryType limit));
    each = verdicts-lines F bytes limit EveryType;
  })
