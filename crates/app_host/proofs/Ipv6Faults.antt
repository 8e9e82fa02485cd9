-- The first fault of options, and of extension headers.
use Rattle.std.proofs.Common.{ℕ, zero, suc, ◌≡◌, ◌≤◌, ◌<◌, ◌+◌, Bool, List, Some, None, arith, length, refl, slice_index, true, false}
use Rattle.std.proofs.lemmas.Bool.Decides.{nat_tests}
use Rattle.std.specs.Option.{option_or}
use Rattle.std.specs.Prelude.{if◌then◌else◌, nat_le}
use Rattle.app_host.specs.Ipv6Fault.{fault_of, header_end, header_fault, headers_fault, is_fragment, is_last, option_end, option_fault, options_fault}
use Rattle.app_host.specs.declared.ipv6_fault.Fault.{Fault}

-- ---- options

-- an option has a byte or more
pub option_end-later : (payload : List ℕ) (start : ℕ) → start < option_end payload start
option_end-later payload start = grind arith

pub options-end : (n : ℕ) (payload : List ℕ) (start end : ℕ) → end ≤ start → options_fault n payload start end ≡ None
options-end zero payload start end past = refl
options-end (suc n) payload start end past = let over : nat_le end start ≡ true = grind arith in rw over refl

pub options-stop : (n : ℕ) (payload : List ℕ) (start end : ℕ) (fault : Fault) → end ≤ n + start → start < end → option_fault payload start end ≡ Some fault
    → options_fault n payload start end ≡ Some fault
options-stop zero payload start end fault few more is = absurd (omega arith)
options-stop (suc n) payload start end fault few more is = let within : nat_le end start ≡ false = grind arith in rw (within, is) refl

-- the options from this position have the fault of those after the first, which has none
pub options-go : (n : ℕ) (payload : List ℕ) (start end : ℕ) → end ≤ n + start → start < end → option_fault payload start end ≡ None
    → (k : ℕ) × (end ≤ k + option_end payload start) × (options_fault n payload start end ≡ options_fault k payload (option_end payload start) end)
options-go zero payload start end few more is = absurd (omega arith)
options-go (suc n) payload start end few more is =
    let within : nat_le end start ≡ false = grind arith in (n, omega (arith, few, option_end-later payload start), rw (within, is) refl)

-- ---- headers

-- an extension header has 8 bytes or more
pub header_end-later : (payload : List ℕ) (number start : ℕ) → start < header_end payload number start
header_end-later payload number start = grind (arith, nat_tests)

pub headers-end : (n : ℕ) (payload : List ℕ) (number pointer start : ℕ) → is_last number ≡ true → headers_fault n payload number pointer start ≡ None
headers-end zero payload number pointer start last = refl
headers-end (suc n) payload number pointer start last = rw last refl

pub headers-stop : (n : ℕ) (payload : List ℕ) (number pointer start : ℕ) (fault : Fault) → length payload < n + start → start ≤ length payload → is_last number ≡ false
    → header_fault payload number pointer start ≡ Some fault → headers_fault n payload number pointer start ≡ Some fault
headers-stop zero payload number pointer start fault few within last is = absurd (omega arith)
headers-stop (suc n) payload number pointer start fault few within last is = rw (last, is) refl

-- the header of a fragment is the last one
pub headers-part : (n : ℕ) (payload : List ℕ) (number pointer start : ℕ) → header_fault payload number pointer start ≡ None → is_fragment payload number start ≡ true
    → headers_fault n payload number pointer start ≡ None
headers-part zero payload number pointer start is part = refl
headers-part (suc n) payload number pointer start is part = by-last (is_last number)
  where
    by-last : (b : Bool) → (if b then None else option_or (header_fault payload number pointer start) (if is_fragment payload number start then None
        else headers_fault n payload (slice_index payload start) (40 + start) (header_end payload number start))) ≡ None
    by-last true = refl
    by-last false = rw (is, part) refl

-- the headers from this one have the fault of those after it, if it has none
pub headers-go : (n : ℕ) (payload : List ℕ) (number pointer start : ℕ) → length payload < n + start → start ≤ length payload → is_last number ≡ false
    → header_fault payload number pointer start ≡ None → is_fragment payload number start ≡ false
    → (k : ℕ) × (length payload < k + header_end payload number start)
    × (headers_fault n payload number pointer start ≡ headers_fault k payload (slice_index payload start) (40 + start) (header_end payload number start))
headers-go zero payload number pointer start few within last is whole = absurd (omega arith)
headers-go (suc n) payload number pointer start few within last is whole = (n, omega (arith, few, header_end-later payload number start), rw (last, is, whole) refl)

-- ---- the whole packet

pub fault-of : (next_header : ℕ) (payload : List ℕ) → fault_of next_header payload ≡ headers_fault (suc (length payload)) payload next_header 6 0
unfolding fault_of
fault-of next_header payload = refl

-- ICMPv6 directly after the IPv6 header has no fault
pub no-fault : (payload : List ℕ) → fault_of 58 payload ≡ None
unfolding fault_of
no-fault payload = refl
