-- The struct of a segment says what the segment says.
use Rattle.std.proofs.Common.{◌≡◌, refl, ◌∙◌, ap, ℕ, ◌+◌, ◌*◌, ◌/◌, ◌%◌, ◌≤◌, Bool, true, false, arith, length}
use Rattle.std.specs.Prelude.{◌==◌, not, Option, None, Some, is_some, if◌then◌else◌}
use Rattle.std.specs.Option.{unwrap_or}
use Rattle.tcp_stream.specs.Items.{items_of}
use Rattle.app_connection.specs.declared.segment.Segment.{Segment}
use Rattle.app_connection.specs.Worlds.{Said, said}
use Rattle.app_socket.specs.declared.socket.Header.{Header}
use Rattle.c_socket.specs.Segments.{bit, fields_of, segment_of}

-- one for a flag that is set
abbrev one : Bool → ℕ
one true = 1
one false = 0

bit_one : (b : Bool) (value : ℕ) → bit b value ≡ value * one b
bit_one true value = omega arith
bit_one false value = omega arith

one_small : (b : Bool) → one b ≤ 1
one_small true = omega arith
one_small false = omega arith

one_is : (b : Bool) → (one b == 1) ≡ b
one_is true = refl
one_is false = refl

-- the flags of a segment, as numbers
abbrev flags : Bool → Bool → Bool → Bool → Bool → ℕ
flags a b c d e = bit a 1 + bit b 2 + bit c 4 + bit d 8 + bit e 16

sum : (a b c d e : Bool) → flags a b c d e ≡ one a + 2 * one b + 4 * one c + 8 * one d + 16 * one e
sum a b c d e = omega (arith, bit_one a 1, bit_one b 2, bit_one c 4, bit_one d 8, bit_one e 16)

fin_is : (a b c d e : Bool) → (flags a b c d e / 1 % 2 == 1) ≡ a
fin_is a b c d e = let n : flags a b c d e / 1 % 2 ≡ one a = omega (arith, sum a b c d e, one_small a) in ap (λ (k : ℕ). k == 1) n ∙ one_is a

syn_is : (a b c d e : Bool) → (flags a b c d e / 2 % 2 == 1) ≡ b
syn_is a b c d e = let n : flags a b c d e / 2 % 2 ≡ one b = omega (arith, sum a b c d e, one_small a, one_small b) in ap (λ (k : ℕ). k == 1) n ∙ one_is b

rst_is : (a b c d e : Bool) → (flags a b c d e / 4 % 2 == 1) ≡ c
rst_is a b c d e = let n : flags a b c d e / 4 % 2 ≡ one c = omega (arith, sum a b c d e, one_small a, one_small b, one_small c) in ap (λ (k : ℕ). k == 1) n ∙ one_is c

ack_is : (a b c d e : Bool) → (flags a b c d e / 16 % 2 == 1) ≡ e
ack_is a b c d e = let n : flags a b c d e / 16 % 2 ≡ one e = omega (arith, sum a b c d e, one_small a, one_small b, one_small c, one_small d, one_small e) in ap (λ (k : ℕ). k == 1) n ∙ one_is e

-- an acknowledgement that is marked
marked : (o : Option ℕ) → (if is_some o then Some (unwrap_or o 0) else None) ≡ o
marked None = refl
marked (Some n) = refl

pub said_as : (s : Segment) (h : Header) → said (segment_of (fields_of s h)) ≡ said s
said_as s h =
    let text = not (length s.payload.now == 0) in
    let e = is_some s.ack in
    let fin = fin_is s.fin s.syn s.rst text e in
    let syn = syn_is s.fin s.syn s.rst text e in
    let rst = rst_is s.fin s.syn s.rst text e in
    let ack : (segment_of (fields_of s h)).ack ≡ s.ack = ap (λ (b : Bool). if b then Some (unwrap_or s.ack 0) else None) (ack_is s.fin s.syn s.rst text e) ∙ marked s.ack in
    let f = flags s.fin s.syn s.rst text e in
    let said_by : Bool → Bool → Bool → Option ℕ → Said = λ x y z o. record { number = s.number; items = items_of y s.payload.now x; ack = o; rst = z } in
    ap (λ (x : Bool). said_by x (f / 2 % 2 == 1) (f / 4 % 2 == 1) (segment_of (fields_of s h)).ack) fin ∙ ap (λ (y : Bool). said_by s.fin y (f / 4 % 2 == 1) (segment_of (fields_of s h)).ack) syn
    ∙ ap (λ (z : Bool). said_by s.fin s.syn z (segment_of (fields_of s h)).ack) rst ∙ ap (λ (o : Option ℕ). said_by s.fin s.syn s.rst o) ack
