-- What each member of an object is read back as, and that its text is UTF-8 and has no line feed.
use Rattle.std.proofs.Common.{◌≡◌, ◌∙◌, ℕ, suc, ◌<◌, ◌≤◌, ◌^◌, Bool, true, false, not, List, [], ◌∷◌, ◌++◌, Option, Some, None, IfSome, IsUtf8, refl, sym, ap, ap₂, arith, map, take, min, codes, append_assoc, append-nil, decimal}
use Rattle.std.specs.Char.Utf16.{has_unpaired_surrogate}
use Rattle.std.specs.Str.{is_utf8}
use Rattle.std.specs.Str.Lossy.{utf8_lossy}
use Rattle.json.specs.Json.{Json, Items, Members, document, no_members, member, no_items, item}
use Rattle.json.specs.Json as tree
use Rattle.json.specs.Print.{print}
use Rattle.json.specs.Token.{Token}
use Rattle.json.specs.Tree.{json_tokens, items_tokens, members_tokens, depth, items_depth, members_depth, HasNumbers, ItemsHaveNumbers, MembersHaveNumbers}
use Rattle.json.proofs.Printed.Decimals.{IsNumber-decimal}
use Rattle.json.proofs.Printed.Trees.{document-print}
use Rattle.mdmp_source.specs.declared.location.Extent.{Extent}
use Rattle.mdmp_source.specs.declared.location.Extent.TheVariants.{Empty, Absent, Inside, Outside}
use Rattle.mdmp_wire.specs.Units.{units_in, utf8_of}
use Rattle.mdmp_lister.specs.declared.name.Name.{Name}
use Rattle.mdmp_lister.specs.declared.name.Name.TheVariants.{Units, Long}
use Rattle.mdmp_lister.specs.declared.name.Name.TheVariants as names
use Rattle.mdmp_print.specs.Json.{bytes_value, hex_string, joined_members, lossy_member, name_value, object, of_hex, of_number, of_object, of_text, of_wide, part_members, prefixed_hex, spelled, text_or_null, values_of}
use Rattle.mdmp_engines.specs.JsonLaws.{IsJsonLine}
use Rattle.mdmp_print.specs.JsonLines.{fault_value, record_member}
use Rattle.mdmp_print.specs.FaultWords.{kind_words}
use Rattle.mdmp_lister.specs.declared.fault.ListFault.{ListFault}
use Rattle.mdmp_source.specs.Store.{AreBytes}
use Rattle.mdmp_lister.specs.declared.fault.FaultKind.{FaultKind}
use Rattle.mdmp_lister.specs.declared.fault.FaultKind.TheVariants as kinds
use Rattle.mdmp_engines.proofs.JsonClean.{AreFit, fit-append, plain-clean, print-clean}
use Rattle.mdmp_engines.proofs.JsonPlain.{ArePlain, are_plain, decimal-plain, plain-utf8, prefixed-plain, word}
use Rattle.mdmp_engines.proofs.JsonStrings.{bytes-utf8, units-utf8}

-- ---- members, one behind the other

-- the tokens of members, without the brace behind them
abbrev front : Members → List Token
front no_members = []
front (member k j ms) = Token.key k ∷ (json_tokens j ++ front ms)

closed : (ms : Members) → members_tokens ms ≡ front ms ++ Token.end_object ∷ []
closed no_members = refl
closed (member k j ms) = ap (λ (l : List Token). Token.key k ∷ l) (
    ap (λ (l : List Token). json_tokens j ++ l) (closed ms) ∙ sym (append_assoc (json_tokens j) (front ms) (Token.end_object ∷ [])))

abbrev chain : Members → Members → Members
chain no_members more = more
chain (member k j ms) more = member k j (chain ms more)

front-chain : (ms more : Members) → front (chain ms more) ≡ front ms ++ front more
front-chain no_members more = refl
front-chain (member k j ms) more = ap (λ (l : List Token). Token.key k ∷ l) (
    ap (λ (l : List Token). json_tokens j ++ l) (front-chain ms more) ∙ sym (append_assoc (json_tokens j) (front ms) (front more)))

numbers-chain : (ms more : Members) → MembersHaveNumbers ms → MembersHaveNumbers more → MembersHaveNumbers (chain ms more)
numbers-chain no_members more a b = b
numbers-chain (member k j ms) more a b = (a.0, numbers-chain ms more a.1 b)

depth-chain : (d : ℕ) (ms more : Members) → members_depth ms ≤ d → members_depth more ≤ d → members_depth (chain ms more) ≤ d
depth-chain d no_members more a b = b
depth-chain d (member k j ms) more a b = omega (arith, depth-chain d ms more (omega arith) b)

-- these tokens are those of a value that is at most so deep, and each of them may stand on a line
record IsValue (depth_bound : ℕ) (ts : List Token) : Type 0 where
  value : Json
  tokens : json_tokens value ≡ ts
  numbers : HasNumbers value
  shallow : depth value ≤ depth_bound
  fit : AreFit ts

-- the same of members without the brace behind them
pub record AreMembers (depth_bound : ℕ) (ts : List Token) : Type 0 where
  pub members : Members
  pub tokens : front members ≡ ts
  pub numbers : MembersHaveNumbers members
  pub shallow : members_depth members ≤ depth_bound
  pub fit : AreFit ts

abbrev pub AreAll : ℕ → List (List Token) → Type 0
AreAll d [] = Unit {0}
AreAll d (m ∷ ms) = AreMembers d m × AreAll d ms

-- members one behind the other, and `tt` behind the last
infixr 5 ◌&◌
abbrev pub ◌&◌ : {A B : Type 0} → A → B → A × B
a & b = (a, b)

-- a name of Windows that was read is of bytes, and the length of one that was not is a number of Rust
abbrev pub IsTold : Name → Type 0
IsTold names.None = Unit {0}
IsTold (Units units) = AreBytes units.bytes.now
IsTold (Long length) = length < 2 ^ 64

module _ (d : ℕ) where
  of-value : (k : List ℕ) (ts : List Token) → are_plain k ≡ true → IsValue d ts → AreMembers d (Token.key k ∷ ts)
  of-value k ts w v = record {
    members = member k v.value no_members;
    tokens = ap (λ (l : List Token). Token.key k ∷ l) (append-nil (json_tokens v.value) ∙ v.tokens);
    numbers = (v.numbers, tt);
    shallow = let s = v.shallow in omega arith;
    fit = (word k w, v.fit);
  }

  both : (xs ys : List Token) → AreMembers d xs → AreMembers d ys → AreMembers d (xs ++ ys)
  both xs ys a b = record {
    members = chain a.members b.members;
    tokens = front-chain a.members b.members ∙ ap₂ (λ (p q : List Token). p ++ q) a.tokens b.tokens;
    numbers = numbers-chain a.members b.members a.numbers b.numbers;
    shallow = depth-chain d a.members b.members a.shallow b.shallow;
    fit = fit-append xs ys a.fit b.fit;
  }

  joined : (ms : List (List Token)) → AreAll d ms → AreMembers d (joined_members ms)
  joined [] h = record { members = no_members; tokens = refl; numbers = tt; shallow = omega arith; fit = tt }
  joined (m ∷ ms) h = both m (joined_members ms) h.0 (joined ms h.1)

  in_braces : (ts : List Token) (m : AreMembers d ts) → json_tokens (tree.object m.members) ≡ Token.begin_object ∷ (ts ++ Token.end_object ∷ [])
  in_braces ts m = ap (λ (l : List Token). Token.begin_object ∷ l) (closed m.members ∙ ap (λ (l : List Token). l ++ Token.end_object ∷ []) m.tokens)

  fit-object : (ts : List Token) → AreFit ts → AreFit (Token.begin_object ∷ (ts ++ Token.end_object ∷ []))
  fit-object ts h = (tt, fit-append ts (Token.end_object ∷ []) h (tt, tt))

  braces : (ms : List (List Token)) → AreAll d ms → IsValue (suc d) (object ms)
  braces ms h =
      let m = joined ms h in
      record {
        value = tree.object m.members;
        tokens = in_braces (joined_members ms) m;
        numbers = m.numbers;
        shallow = let s = m.shallow in omega arith;
        fit = fit-object (joined_members ms) m.fit;
      }

  -- ---- members of each form: of a name that is a word

  pub number : (name : List ℕ) (n : ℕ) → are_plain name ≡ true → n < 2 ^ 64 → AreMembers d (of_number name n)
  number name n w small = of-value name (Token.number (decimal n) ∷ []) w (record {
    value = tree.number (decimal n);
    tokens = refl;
    numbers = IsNumber-decimal n small;
    shallow = omega arith;
    fit = (plain-clean (decimal n) (decimal-plain n), tt);
  })

  pub text : (name s : List ℕ) → are_plain name ≡ true → IsUtf8 s → AreMembers d (of_text name s)
  text name s w u = of-value name (Token.string s ∷ []) w (record { value = tree.string s; tokens = refl; numbers = tt; shallow = omega arith; fit = (u, tt) })

  pub plain : (name s : List ℕ) → are_plain name ≡ true → ArePlain s → AreMembers d (of_text name s)
  plain name s w h = text name s w (plain-utf8 s h)

  pub words : (name s : List ℕ) → are_plain name ≡ true → are_plain s ≡ true → AreMembers d (of_text name s)
  words name s w v = text name s w (word s v)

  pub truth : (name : List ℕ) (b : Bool) → are_plain name ≡ true → AreMembers d (Token.key name ∷ Token.boolean b ∷ [])
  truth name b w = of-value name (Token.boolean b ∷ []) w (record { value = tree.boolean b; tokens = refl; numbers = tt; shallow = omega arith; fit = (tt, tt) })

  pub nothing : (name : List ℕ) → are_plain name ≡ true → AreMembers d (Token.key name ∷ Token.null ∷ [])
  nothing name w = of-value name (Token.null ∷ []) w (record { value = tree.null; tokens = refl; numbers = tt; shallow = omega arith; fit = (tt, tt) })

  pub or_null : (name : List ℕ) (s : Option (List ℕ)) → are_plain name ≡ true → IfSome s IsUtf8 → AreMembers d (Token.key name ∷ text_or_null s)
  or_null name None w u = nothing name w
  or_null name (Some s) w u = text name s w u

  -- a part, whose size and offset are members of either form
  placed : (of : List ℕ → ℕ → List Token) (e : Extent) (size offset : ℕ) → AreMembers d (of (codes "size") size) → AreMembers d (of (codes "offset") offset)
      → AreMembers d (part_members of e size offset)
  placed of Empty size offset s o = words (codes "class") (codes "empty") refl refl
  placed of Absent size offset s o = both _ _ (words (codes "class") (codes "absent") refl refl) s
  placed of Inside size offset s o = both _ _ (words (codes "class") (codes "inside") refl refl) (both _ _ s o)
  placed of Outside size offset s o = both _ _ (words (codes "class") (codes "outside") refl refl) (both _ _ s o)

  pub placed-number : (e : Extent) (size offset : ℕ) → size < 2 ^ 64 → offset < 2 ^ 64 → AreMembers d (part_members of_number e size offset)
  placed-number e size offset s o = placed of_number e size offset (number (codes "size") size refl s) (number (codes "offset") offset refl o)

  pub wide : (name : List ℕ) (n : ℕ) → are_plain name ≡ true → AreMembers d (of_wide name n)
  wide name n w = plain name (decimal n) w (decimal-plain n)

  pub placed-wide : (e : Extent) (size offset : ℕ) → AreMembers d (part_members of_wide e size offset)
  placed-wide e size offset = placed of_wide e size offset (wide (codes "size") size refl) (wide (codes "offset") offset refl)

  lossy : (b : Bool) → AreMembers d (lossy_member b)
  lossy true = truth (codes "lossy") true refl
  lossy false = joined [] tt

  of-spelled : (name s : List ℕ) (b : Bool) → are_plain name ≡ true → IsUtf8 s → AreMembers d (Token.key name ∷ spelled s b)
  of-spelled name s b w u = both (of_text name s) (lossy_member b) (text name s w u) (lossy b)

  pub of-bytes : (name bytes : List ℕ) → are_plain name ≡ true → AreMembers d (Token.key name ∷ bytes_value bytes)
  of-bytes name bytes w = of-spelled name (utf8_lossy bytes) (not (is_utf8 bytes)) w (bytes-utf8 bytes)

  pub of-hex : (name : List ℕ) (k n : ℕ) → are_plain name ≡ true → AreMembers d (of_hex name k n)
  of-hex name k n w = plain name (prefixed_hex k n) w (prefixed-plain k n)

-- the length of a name is an object in the object of its record
pub of-name : (k : List ℕ) (name : Name) → are_plain k ≡ true → IsTold name → AreMembers 1 (Token.key k ∷ name_value name)
of-name k names.None w h = nothing 1 k w
of-name k (Units units) w h = of-spelled 1 k (utf8_of (units_in units)) (has_unpaired_surrogate (units_in units)) w (units-utf8 units.bytes.now h)
of-name k (Long length) w h = of-value 1 k (name_value (Long length)) w (braces 0 (of_number (codes "long") length ∷ []) (number 0 (codes "long") length refl h, tt))

-- an object in an object
nested : (k : List ℕ) (ms : List (List Token)) → are_plain k ≡ true → AreAll 0 ms → AreMembers 1 (of_object k ms)
nested k ms w h = of-value 1 k (object ms) w (braces 0 ms h)

pub part : (k : List ℕ) (e : Extent) (size offset : ℕ) → are_plain k ≡ true → size < 2 ^ 64 → offset < 2 ^ 64
    → AreMembers 1 (of_object k (part_members of_number e size offset ∷ []))
part k e size offset w s o = nested k (part_members of_number e size offset ∷ []) w (placed-number 0 e size offset s o, tt)

-- a part behind the address of a stack
pub stack : (start : ℕ) (e : Extent) (size offset : ℕ) → size < 2 ^ 64 → offset < 2 ^ 64
    → AreMembers 1 (of_object (codes "stack") (of_hex (codes "start") 16 start ∷ part_members of_number e size offset ∷ []))
stack start e size offset s o =
    nested (codes "stack") (of_hex (codes "start") 16 start ∷ part_members of_number e size offset ∷ []) refl (of-hex 0 (codes "start") 16 start refl, (placed-number 0 e size offset s o, tt))

-- ---- values of an exception

abbrev texts : List ℕ → Items
texts [] = no_items
texts (v ∷ vs) = item (tree.string (prefixed_hex 16 v)) (texts vs)

texts-tokens : (vs : List ℕ) → items_tokens (texts vs) ≡ map hex_string vs ++ Token.end_array ∷ []
texts-tokens [] = refl
texts-tokens (v ∷ vs) = ap (λ (l : List Token). hex_string v ∷ l) (texts-tokens vs)

texts-numbers : (vs : List ℕ) → ItemsHaveNumbers (texts vs)
texts-numbers [] = tt
texts-numbers (v ∷ vs) = (tt, texts-numbers vs)

texts-depth : (vs : List ℕ) → items_depth (texts vs) ≤ 0
texts-depth [] = omega arith
texts-depth (v ∷ vs) = omega (arith, texts-depth vs)

texts-fit : (vs : List ℕ) → AreFit (map hex_string vs ++ Token.end_array ∷ [])
texts-fit [] = (tt, tt)
texts-fit (v ∷ vs) = (plain-utf8 (prefixed_hex 16 v) (prefixed-plain 16 v), texts-fit vs)

pub of-values : (k : List ℕ) (count : ℕ) (values : List ℕ) → are_plain k ≡ true → AreMembers 1 (Token.key k ∷ Token.begin_array ∷ (values_of count values ++ Token.end_array ∷ []))
of-values k count values w =
    let vs = take (min count 15) values in
    of-value 1 k _ w (record {
      value = tree.array (texts vs);
      tokens = ap (λ (l : List Token). Token.begin_array ∷ l) (texts-tokens vs);
      numbers = texts-numbers vs;
      shallow = omega (arith, texts-depth vs);
      fit = (tt, texts-fit vs);
    })

-- ---- faults

of-record : (k : Option ℕ) → AreMembers 0 (record_member k)
of-record None = joined 0 [] tt
of-record (Some k) = wide 0 (codes "item") k refl

kind-plain : (kind : FaultKind) → are_plain (kind_words kind) ≡ true
kind-plain kinds.StreamOutside = refl
kind-plain kinds.ShortStream = refl
kind-plain kinds.BadHeaderSize = refl
kind-plain kinds.BadEntrySize = refl
kind-plain kinds.BadCount = refl
kind-plain kinds.NameLengthOutside = refl
kind-plain kinds.NameOdd = refl
kind-plain kinds.NameUnitsOutside = refl
kind-plain (kinds.Source fault) = refl
kind-plain kinds.Budget = refl

pub of-verdict : (k : List ℕ) (fault : Option ListFault) → are_plain k ≡ true → AreMembers 1 (Token.key k ∷ fault_value fault)
of-verdict k None w = nothing 1 k w
of-verdict k (Some f) w = of-value 1 k _ w (
    braces 0 (of_text (codes "kind") (kind_words f.kind) ∷ record_member f.index ∷ of_wide (codes "offset") f.offset ∷ of_wide (codes "size") f.size ∷ [])
    (words 0 (codes "kind") (kind_words f.kind) refl (kind-plain f.kind), (of-record f.index, (wide 0 (codes "offset") f.offset refl, (wide 0 (codes "size") f.size refl, tt)))))

-- ---- objects

pub is_line : (ms : List (List Token)) → AreAll 1 ms → IsJsonLine (object ms)
is_line ms h =
    let m = joined 1 ms h in
    let same = in_braces 1 (joined_members ms) m in
    let clean = print-clean (object ms) (fit-object 1 (joined_members ms) m.fit) in
    record {
      reads = (
        m.members,
        (ap (λ (l : List Token). document (print l)) (sym same) ∙ document-print (tree.object m.members) m.numbers (let s = m.shallow in omega arith), same),
      );
      utf8 = clean.0;
      one_line = clean.1;
    }
