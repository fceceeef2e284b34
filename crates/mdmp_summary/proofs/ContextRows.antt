-- Worked contexts: byte k of each is k, counted anew from 256 on, so that a register shows where it was read.
use Rattle.std.proofs.Common.{◌≡◌, ℕ, zero, suc, ◌+◌, ◌%◌, List, [], ◌∷◌, Some, None, refl}
use Rattle.mdmp_wire.specs.Number.{number_at}
use Rattle.mdmp_summary.specs.Context.{registers_at}

bytes_from : ℕ → ℕ → List ℕ
bytes_from at zero = []
bytes_from at (suc n) = at % 256 ∷ bytes_from (at + 1) n

abbrev context : ℕ → List ℕ
context n = bytes_from 0 n

-- LLDB's 720 bytes of x64, and Crashpad's 1,232
x64-lldb : registers_at 9 (context 720) ≡ Some (record { instruction = 0xfffefdfcfbfaf9f8; stack = 0x9f9e9d9c9b9a9998; frame = 0xa7a6a5a4a3a2a1a0 })
unfolding number_at bytes_from
x64-lldb = refl

x64-crashpad : registers_at 9 (context 1232) ≡ Some (record { instruction = 0xfffefdfcfbfaf9f8; stack = 0x9f9e9d9c9b9a9998; frame = 0xa7a6a5a4a3a2a1a0 })
unfolding number_at bytes_from
x64-crashpad = refl

x64-least : registers_at 9 (context 256) ≡ Some (record { instruction = 0xfffefdfcfbfaf9f8; stack = 0x9f9e9d9c9b9a9998; frame = 0xa7a6a5a4a3a2a1a0 })
unfolding number_at bytes_from
x64-least = refl

x64-short : registers_at 9 (context 255) ≡ None
unfolding number_at bytes_from
x64-short = refl

x86-whole : registers_at 0 (context 716) ≡ Some (record { instruction = 0xbbbab9b8; stack = 0xc7c6c5c4; frame = 0xb7b6b5b4 })
unfolding number_at bytes_from
x86-whole = refl

x86-on_x64 : registers_at 10 (context 200) ≡ Some (record { instruction = 0xbbbab9b8; stack = 0xc7c6c5c4; frame = 0xb7b6b5b4 })
unfolding number_at bytes_from
x86-on_x64 = refl

x86-short : registers_at 0 (context 199) ≡ None
unfolding number_at bytes_from
x86-short = refl

arm-least : registers_at 5 (context 68) ≡ Some (record { instruction = 0x43424140; stack = 0x3b3a3938; frame = 0x33323130 })
unfolding number_at bytes_from
arm-least = refl

arm-short : registers_at 5 (context 67) ≡ None
unfolding number_at bytes_from
arm-short = refl

arm64-least : registers_at 12 (context 272) ≡ Some (record { instruction = 0x0f0e0d0c0b0a0908; stack = 0x0706050403020100; frame = 0xf7f6f5f4f3f2f1f0 })
unfolding number_at bytes_from
arm64-least = refl

arm64-breakpad : registers_at 0x8003 (context 796) ≡ Some (record { instruction = 0x0f0e0d0c0b0a0908; stack = 0x0706050403020100; frame = 0xf7f6f5f4f3f2f1f0 })
unfolding number_at bytes_from
arm64-breakpad = refl

arm64-short : registers_at 12 (context 271) ≡ None
unfolding number_at bytes_from
arm64-short = refl

-- MIPS, and no bytes at all
unknown : registers_at 1 (context 1232) ≡ None
unfolding number_at bytes_from
unknown = refl

empty : registers_at 9 [] ≡ None
unfolding number_at bytes_from
empty = refl
