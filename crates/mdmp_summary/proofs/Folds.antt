-- What goes over a list a value at a time is what is said of the whole list.
use Rattle.std.proofs.Common.{◌≡◌, ℕ, suc, ◌+◌, List, [], ◌∷◌, ◌++◌, Bool, Option, Some, None, length, refl, ap, sym, ◌∙◌, arith}
use Rattle.std.specs.Prelude.{filter, flat_map, fold, sum}
use Rattle.std.proofs.lemmas.Bool.Decides.{nat_tests}
use Rattle.std.proofs.lemmas.List.{append-nil}
use Rattle.std.proofs.lemmas.List.Elements.{filter-append}
use Rattle.std.proofs.lemmas.List.Sums.{sum_by-cons}
use Rattle.mdmp_source.specs.Count.{raised}
use Rattle.mdmp_lister.specs.Format.Item.{plain}
use Rattle.mdmp_wire.specs.declared.module.ModuleRecord.{ModuleRecord}
use Rattle.mdmp_lister.specs.declared.item.Item.{Item}
use Rattle.mdmp_lister.specs.declared.item.Item.TheVariants as items
use Rattle.mdmp_summary.specs.Crash.{breaks_nothing, exceptions_seen, stops_nothing}
use Rattle.mdmp_summary.specs.Gathering.{exceptions_given, gathered_with, memory_given, modules_given, nothing_gathered, ranges_given, streams_given, systems_given, thread_names_given, threads_given}
use Rattle.mdmp_summary.specs.Keeping.{counted_on, first, kept, summed_on}
use Rattle.mdmp_summary.specs.Passes.{gathering_of, searched}
use Rattle.mdmp_summary.specs.Part.{parts_outside, parts_seen}
use Rattle.mdmp_summary.specs.Search.{begins_below, found, higher, highest, holds_address, is_name_of, nearest_below, nothing_found}
use Rattle.mdmp_summary.specs.Summary.{exceptions, modules, outside, systems, thread_names}
use Rattle.mdmp_summary.specs.declared.gathering.Gathering.{Gathering}
use Rattle.mdmp_summary.specs.declared.part.PartOutside.{PartOutside}
use Rattle.mdmp_summary.specs.declared.part.PartsOutside.{PartsOutside}
use Rattle.mdmp_summary.specs.declared.search.CrashSearch.{CrashSearch}

-- ---- one list behind another

kept-some : {X : Type 0} (x : X) (ys : List X) → kept (Some x) ys ≡ Some x
kept-some x [] = refl
kept-some x (y ∷ ys) = refl

kept-behind : {X : Type 0} (old : Option X) (x : X) (ys : List X) → kept (kept old (x ∷ [])) ys ≡ kept old (x ∷ [])
kept-behind None x ys = kept-some x ys
kept-behind (Some w) x ys = kept-some w ys

pub kept-append : {X : Type 0} (old : Option X) (xs ys : List X) → kept (kept old xs) ys ≡ kept old (xs ++ ys)
kept-append old [] ys = refl
kept-append old (x ∷ xs) ys = kept-behind old x ys

pub counted_on-append : {X : Type 0} (n : ℕ) (xs ys : List X) → counted_on (counted_on n xs) ys ≡ counted_on n (xs ++ ys)
counted_on-append n [] ys = refl
counted_on-append n (x ∷ xs) ys = counted_on-append (raised n 1) xs ys

pub summed_on-append : (n : ℕ) (xs ys : List ℕ) → summed_on (summed_on n xs) ys ≡ summed_on n (xs ++ ys)
summed_on-append n [] ys = refl
summed_on-append n (x ∷ xs) ys = summed_on-append (raised n x) xs ys

pub parts_seen_append : (old : PartsOutside) (xs ys : List PartOutside) → parts_seen (parts_seen old xs) ys ≡ parts_seen old (xs ++ ys)
parts_seen_append old xs ys = λ i. record { count = counted_on-append old.count xs ys i; first = kept-append old.first xs ys i }

pub nothing_after : (xs : List PartOutside) → xs ++ [] ≡ xs
nothing_after xs = append-nil xs

-- ---- items whose names are lent

-- the place that a name is lent from does not matter
pub gathered_plain : (old : Gathering) (x : Item) → gathered_with old (plain x) ≡ gathered_with old x
gathered_plain old (items.Module m) = refl
gathered_plain old _ = refl

pub found_plain : (old : CrashSearch) (x : Item) → found old (plain x) ≡ found old x
found_plain old (items.Module m) = refl
found_plain old _ = refl

-- ---- a whole list

pub kept-none : {X : Type 0} (xs : List X) → kept None xs ≡ first xs
kept-none [] = refl
kept-none (x ∷ xs) = refl

raised-then : (n a b : ℕ) → raised (raised n a) b ≡ raised n (a + b)
raised-then n a b = omega arith

raised-zero : (n : ℕ) → n ≡ raised n 0
raised-zero n = omega arith

pub counted_on-is : {X : Type 0} (n : ℕ) (xs : List X) → counted_on n xs ≡ raised n (length xs)
counted_on-is n [] = raised-zero n
counted_on-is n (x ∷ xs) = counted_on-is (raised n 1) xs ∙ raised-then n 1 (length xs) ∙ ap (raised n) (one_more (length xs)) where
  one_more : (k : ℕ) → 1 + k ≡ suc k
  one_more k = omega arith

pub summed_on-is : (n : ℕ) (xs : List ℕ) → summed_on n xs ≡ raised n (sum xs)
summed_on-is n [] = raised-zero n
summed_on-is n (x ∷ xs) = summed_on-is (raised n x) xs ∙ raised-then n x (sum xs) ∙ ap (raised n) (sym (sum_by-cons (λ y. y) x xs))

-- what passes a test of one list behind another
pub kept-filter : {X : Type 0} (test : X → Bool) (old : Option X) (xs ys : List X) → kept (kept old (filter test xs)) (filter test ys) ≡ kept old (filter test (xs ++ ys))
kept-filter test old xs ys = kept-append old (filter test xs) (filter test ys) ∙ ap (kept old) (sym (filter-append test xs ys))

-- ---- what is gathered

abbrev gathered_on : Gathering → List Item → Gathering
gathered_on old items = record {
  system = kept old.system (systems items);
  program = kept old.program (modules items);
  exceptions = exceptions_seen old.exceptions (exceptions items);
  counts = record {
    streams = counted_on old.counts.streams (flat_map streams_given items);
    threads = counted_on old.counts.threads (flat_map threads_given items);
    modules = counted_on old.counts.modules (modules items);
    exceptions = counted_on old.counts.exceptions (exceptions items);
    ranges = counted_on old.counts.ranges (flat_map ranges_given items);
    memory = summed_on old.counts.memory (flat_map memory_given items);
  };
  outside = parts_seen old.outside (outside items);
}

gathered_over : (old : Gathering) (items : List Item) → fold gathered_with old items ≡ gathered_on old items
gathered_over old [] = refl
gathered_over old (x ∷ xs) = gathered_over (gathered_with old x) xs ∙ (λ i. record {
  system = kept-append old.system (systems_given x) (systems xs) i;
  program = kept-append old.program (modules_given x) (modules xs) i;
  exceptions = record {
    first = kept-append old.exceptions.first (exceptions_given x) (exceptions xs) i;
    unbroken = kept-filter breaks_nothing old.exceptions.unbroken (exceptions_given x) (exceptions xs) i;
    unstopped = kept-filter stops_nothing old.exceptions.unstopped (exceptions_given x) (exceptions xs) i;
  };
  counts = record {
    streams = counted_on-append old.counts.streams (streams_given x) (flat_map streams_given xs) i;
    threads = counted_on-append old.counts.threads (threads_given x) (flat_map threads_given xs) i;
    modules = counted_on-append old.counts.modules (modules_given x) (modules xs) i;
    exceptions = counted_on-append old.counts.exceptions (exceptions_given x) (exceptions xs) i;
    ranges = counted_on-append old.counts.ranges (ranges_given x) (flat_map ranges_given xs) i;
    memory = summed_on-append old.counts.memory (memory_given x) (flat_map memory_given xs) i;
  };
  outside = parts_seen_append old.outside (parts_outside x) (outside xs) i;
})

pub gathered_all : (items : List Item) → fold gathered_with nothing_gathered items ≡ gathering_of items
gathered_all items = gathered_over nothing_gathered items ∙ (λ i. record {
  system = kept-none (systems items) i;
  program = kept-none (modules items) i;
  exceptions = record {
    first = kept-none (exceptions items) i;
    unbroken = kept-none (filter breaks_nothing (exceptions items)) i;
    unstopped = kept-none (filter stops_nothing (exceptions items)) i;
  };
  counts = record {
    streams = counted_on-is 0 (flat_map streams_given items) i;
    threads = counted_on-is 0 (flat_map threads_given items) i;
    modules = counted_on-is 0 (modules items) i;
    exceptions = counted_on-is 0 (exceptions items) i;
    ranges = counted_on-is 0 (flat_map ranges_given items) i;
    memory = summed_on-is 0 (flat_map memory_given items) i;
  };
  outside = record { count = counted_on-is 0 (outside items) i; first = kept-none (outside items) i };
})

-- ---- the module with the greatest base

pub higher-none : (m : Option ModuleRecord) → m ≡ higher m None
higher-none None = refl
higher-none (Some m) = refl

tests_then : (a b c : ModuleRecord) → higher (higher (Some a) (Some b)) (Some c) ≡ higher (Some a) (higher (Some b) (Some c))
tests_then a b c = grind (arith, nat_tests)

higher-assoc : (a b c : Option ModuleRecord) → higher (higher a b) c ≡ higher a (higher b c)
higher-assoc None b c = refl
higher-assoc (Some a) None c = refl
higher-assoc (Some a) (Some b) None = sym (higher-none (higher (Some a) (Some b)))
higher-assoc (Some a) (Some b) (Some c) = tests_then a b c

highest-append : (xs ys : List ModuleRecord) → highest (xs ++ ys) ≡ higher (highest xs) (highest ys)
highest-append [] ys = refl
highest-append (x ∷ xs) ys = ap (higher (Some x)) (highest-append xs ys) ∙ sym (higher-assoc (Some x) (highest xs) (highest ys))

-- what is nearest among some modules and then some others
nearest-append : (address : ℕ) (old : Option ModuleRecord) (xs ys : List ModuleRecord)
    → higher (higher old (nearest_below address xs)) (nearest_below address ys) ≡ higher old (nearest_below address (xs ++ ys))
nearest-append address old xs ys =
    let below = begins_below address in
    higher-assoc old (highest (filter below xs)) (highest (filter below ys))
    ∙ ap (higher old) (sym (highest-append (filter below xs) (filter below ys)) ∙ ap highest (sym (filter-append below xs ys)))

-- ---- what is found

abbrev found_on : CrashSearch → List Item → CrashSearch
found_on old items = record {
  address = old.address;
  thread = old.thread;
  holder = kept old.holder (filter (holds_address old.address) (modules items));
  nearest = higher old.nearest (nearest_below old.address (modules items));
  name = kept old.name (filter (is_name_of old.thread) (thread_names items));
}

found_over : (old : CrashSearch) (items : List Item) → fold found old items ≡ found_on old items
found_over old [] = λ i. record { address = old.address; thread = old.thread; holder = old.holder; nearest = higher-none old.nearest i; name = old.name }
found_over old (x ∷ xs) = found_over (found old x) xs ∙ (λ i. record {
  address = old.address;
  thread = old.thread;
  holder = kept-filter (holds_address old.address) old.holder (modules_given x) (modules xs) i;
  nearest = nearest-append old.address old.nearest (modules_given x) (modules xs) i;
  name = kept-filter (is_name_of old.thread) old.name (thread_names_given x) (thread_names xs) i;
})

pub found_all : (address thread : ℕ) (items : List Item) → fold found (nothing_found address thread) items ≡ searched address thread items
found_all address thread items = found_over (nothing_found address thread) items ∙ (λ i. record {
  address = address;
  thread = thread;
  holder = kept-none (filter (holds_address address) (modules items)) i;
  nearest = nearest_below address (modules items);
  name = kept-none (filter (is_name_of thread) (thread_names items)) i;
})
