-- What the words of `hex`, the limits and the types of `copy` name, computed by the definitions.
use Rattle.std.proofs.Common.{◌≡◌, ℕ, [], Option, Some, None, true, false, refl}
use Rattle.std.specs.Prelude.{codes}
use Rattle.mdmp_words.specs.declared.number_words.Span.{Span}
use Rattle.mdmp_words.specs.NearTypes.{nearest_among, nearest_type}
use Rattle.mdmp_words.specs.NumberWords.{address_named, length_named, span_named}
use Rattle.mdmp_words.specs.OptionWords.{most_named}
use Rattle.mdmp_words.specs.TypeNames.{type_named}

abbrev span : ℕ → ℕ → Option Span
span address length = Some (record { address = address; length = length })

hexadecimal-address : address_named (codes "0x0123456789aBcDeF") ≡ Some 0x0123456789abcdef
hexadecimal-address = refl

decimal-address : address_named (codes "0018446744073709551615") ≡ Some 18446744073709551615
decimal-address = refl

no_digits-address : address_named (codes "0x") ≡ None
no_digits-address = refl

long-address : address_named (codes "0x00000000000000001") ≡ None
long-address = refl

upper_case_x-address : address_named (codes "0X10") ≡ None
upper_case_x-address = refl

signed-address : address_named (codes "0x+1") ≡ None
signed-address = refl

too_high-address : address_named (codes "18446744073709551616") ≡ None
too_high-address = refl

-- WinDbg's backtick has eight digits behind it, and one to eight before, with `0x` or without
windbg-address : address_named (codes "00000000`7ffe0300") ≡ Some 0x7ffe0300
windbg-address = refl

prefixed-windbg-address : address_named (codes "0x7Ff6`12345678") ≡ Some 0x7ff612345678
prefixed-windbg-address = refl

last-windbg-address : address_named (codes "ffffffff`ffffffff") ≡ Some 0xffffffffffffffff
last-windbg-address = refl

short-windbg-address : address_named (codes "00000000`7ffe030") ≡ None
short-windbg-address = refl

no_high-windbg-address : address_named (codes "0x`7ffe0300") ≡ None
no_high-windbg-address = refl

long-windbg-address : address_named (codes "000000000`7ffe0300") ≡ None
long-windbg-address = refl

twice-windbg-address : address_named (codes "0`0`7ffe0300") ≡ None
twice-windbg-address = refl

limit-length : length_named (codes "1048576") ≡ Some 1048576
limit-length = refl

past_limit-length : length_named (codes "1048577") ≡ None
past_limit-length = refl

padded-length : length_named (codes "000000000000000000000000000001") ≡ Some 1
padded-length = refl

empty-length : length_named [] ≡ None
empty-length = refl

signed-length : length_named (codes "+5") ≡ None
signed-length = refl

hexadecimal-length : length_named (codes "0x10") ≡ None
hexadecimal-length = refl

grouped-length : length_named (codes "1_0") ≡ None
grouped-length = refl

blank-length : length_named (codes " 1") ≡ None
blank-length = refl

-- a span may have no addresses
no_bytes-span : span_named (codes "4096") (codes "0") ≡ span 4096 0
no_bytes-span = refl

-- a span may end at the last address
last-span : span_named (codes "0xFFFFFFFFFFFFFFF8") (codes "8") ≡ span 0xfffffffffffffff8 8
last-span = refl

-- and does not wrap
past_last-span : span_named (codes "0xFFFFFFFFFFFFFFF8") (codes "9") ≡ None
past_last-span = refl

most-limit : most_named false (Some (codes "18446744073709551615")) ≡ Some (Some 18446744073709551615)
most-limit = refl

past_most-limit : most_named false (Some (codes "18446744073709551616")) ≡ None
past_most-limit = refl

-- a word that names no number is refused, also for an untrusted file
letter-limit : most_named true (Some (codes "x")) ≡ None
letter-limit = refl

-- zero is a limit
zero-limit : most_named true (Some (codes "0")) ≡ Some (Some 0)
zero-limit = refl

no_word-limit : most_named false None ≡ Some None
no_word-limit = refl

untrusted-limit : most_named true None ≡ Some (Some 67108864)
untrusted-limit = refl

by_records-type : type_named (codes "memory64") ≡ Some 9
by_records-type = refl

in_header-type : type_named (codes "MemoryInfoListStream") ≡ Some 16
in_header-type = refl

by_number-type : type_named (codes "0016") ≡ Some 16
by_number-type = refl

upper_case-near : nearest_type (codes "THREADS") ≡ Some (codes "threads")
unfolding nearest_among
upper_case-near = refl

one_s-near : nearest_type (codes "threadListStreams") ≡ Some (codes "ThreadListStream")
unfolding nearest_among
one_s-near = refl

no_s-near : nearest_type (codes "region") ≡ Some (codes "regions")
unfolding nearest_among
no_s-near = refl

two_s-near : nearest_type (codes "memoryss") ≡ None
unfolding nearest_among
two_s-near = refl

upper_case-type : type_named (codes "Threads") ≡ None
upper_case-type = refl

too_high-type : type_named (codes "4294967296") ≡ None
too_high-type = refl
