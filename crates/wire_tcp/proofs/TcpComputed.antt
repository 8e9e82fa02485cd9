-- `tcp_of` computes the value that a segment parses as.
use Rattle.std.proofs.Common.{ℕ, ◌≡◌, ◌≢◌, ◌↔◌, Bool, true, IsTrue, List, Option, Some, None, Result, Ok, Err, IfOk, OnErr, refl, sym, ap, subst, ◌∙◌, arith}
use Rattle.std.proofs.lemmas.Bool.Decides.{nat_tests}
use Rattle.std.specs.Bool.{Decides}
use Rattle.std.specs.Option.{option_and_then, option_map}
use Rattle.std.specs.Prelude.{if◌then◌else◌}
use Rattle.std.specs.Result.{result_ok}
use Rattle.net_base.specs.declared.error.Error.{Error}
use Rattle.wire_addr.specs.declared.ip_address.IpAddress.{IpAddress}
use Rattle.net_base.specs.Field.{field}
use Rattle.wire_tcp.specs.Tcp.{HasLengths, Verifies, has_lengths, options_of, payload_of}
use Rattle.wire_tcp_options.specs.TcpItems.{IsOptionList, Item}
use Rattle.wire_tcp_options.specs.declared.tcp.control.TcpControl.{TcpControl}
use Rattle.wire_tcp_options.specs.declared.tcp.control.TcpControl.TheVariants as control
use Rattle.wire_tcp.specs.TcpRepr.{HasControl, HasNoReading, Reads, TcpHeader, control_of, header_of, header_with, is_sound, items_in, tcp_of}
use Rattle.wire_tcp.specs.declared.tcp.repr.TcpRepr.{TcpRepr}
use Rattle.wire_tcp.proofs.OptionItems.{items_in-list}
use Rattle.std.proofs.lemmas.Grind.{common_steps}

-- ---- each test is true exactly if what it tests holds

pub has_lengths-Decides : (bytes : List ℕ) → Decides (has_lengths bytes) (HasLengths bytes)
has_lengths-Decides bytes = grind (arith, nat_tests)

-- lengths, ports and checksum are valid
pub record IsSound (bytes : List ℕ) (src dst : IpAddress) (verified : Bool) : Type 0 where
  pub lengths : HasLengths bytes
  pub sender : field bytes 0 16 ≢ 0
  pub receiver : field bytes 16 16 ≢ 0
  pub checksum : IsTrue verified → Verifies src dst bytes

is_sound-Decides : (src dst : IpAddress) (verified : Bool) (bytes : List ℕ) → Decides (is_sound src dst verified bytes) (IsSound bytes src dst verified)
is_sound-Decides src dst verified bytes = grind arith

control_of-Has : (bytes : List ℕ) (asked : TcpControl) → (control_of bytes ≡ Some asked) ↔ HasControl bytes asked
control_of-Has bytes asked = grind (arith, common_steps, nat_tests)

-- ---- the whole value

-- a segment with this control and these items parses as the values of its fields
pub reads-with : (bytes : List ℕ) (src dst : IpAddress) (verified : Bool) (asked : TcpControl) (items : List Item) (tail : List ℕ)
    → IsSound bytes src dst verified → HasControl bytes asked → IsOptionList (options_of bytes) items tail → Reads bytes src dst verified (header_with bytes asked items) (payload_of bytes)
reads-with bytes src dst verified asked items tail sound asks list = record {
  lengths = sound.lengths;
  sender = sound.sender;
  receiver = sound.receiver;
  control = asks;
  checksum = sound.checksum;
  options = record {
    items = items;
    tail = tail;
    list = list;
    max_seg_size = refl;
    window_scale = refl;
    sack_permitted = refl;
    sack_ranges = refl;
    timestamp = refl;
  };
  src_port = refl;
  dst_port = refl;
  seq_number = refl;
  ack_number = refl;
  window_len = refl;
  body = refl;
}

-- the parsed value is that of the fields and items
pub Reads-is : (bytes : List ℕ) (src dst : IpAddress) (verified : Bool) (v : TcpHeader) (payload : List ℕ) → (r : Reads bytes src dst verified v payload) → header_with bytes v.control r.options.items ≡ v
Reads-is bytes src dst verified v payload r = grind (arith, common_steps, nat_tests)

-- a value that is computed has a sound segment, a control and items
parts : {C I V : Type 0} (sound : Bool) (c : Option C) (items : Option I) (f : C → I → V) (v : V) → (if sound then option_and_then (λ c. option_map (f c) items) c else None) ≡ Some v
    → (sound ≡ true) × (x : C) × (y : I) × (c ≡ Some x) × (items ≡ Some y) × (f x y ≡ v)
parts sound c items f v e = grind arith

tcp_of-reads : (src dst : IpAddress) (verified : Bool) (bytes : List ℕ) (v : TcpHeader) → tcp_of src dst verified bytes ≡ Some v → Reads bytes src dst verified v (payload_of bytes)
unfolding tcp_of
tcp_of-reads src dst verified bytes v e =
    let (sound, asked, items, asks, are, is) = parts (is_sound src dst verified bytes) (control_of bytes) (items_in (options_of bytes)) (header_with bytes) v e in
    let (tail, list) = (items_in-list (options_of bytes) items).0 are in
    subst (λ w. Reads bytes src dst verified w (payload_of bytes)) is
    (reads-with bytes src dst verified asked items tail ((is_sound-Decides src dst verified bytes).0 sound) ((control_of-Has bytes asked).0 asks) list)

reads-tcp_of : (src dst : IpAddress) (verified : Bool) (bytes payload : List ℕ) (v : TcpHeader) → Reads bytes src dst verified v payload → tcp_of src dst verified bytes ≡ Some v
unfolding tcp_of
reads-tcp_of src dst verified bytes payload v r =
    let sound = (is_sound-Decides src dst verified bytes).1 (record { lengths = r.lengths; sender = r.sender; receiver = r.receiver; checksum = r.checksum }) in
    let asks = (control_of-Has bytes v.control).1 r.control in
    let are = (items_in-list (options_of bytes) r.options.items).1 (r.options.tail, r.options.list) in
    rw (sound, asks, are) (ap Some (Reads-is bytes src dst verified v payload r))

-- the computed value is the one that the relation `Reads` defines
pub tcp_of-Reads : (src dst : IpAddress) (verified : Bool) (bytes : List ℕ) (v : TcpHeader) → (tcp_of src dst verified bytes ≡ Some v) ↔ Reads bytes src dst verified v (payload_of bytes)
tcp_of-Reads src dst verified bytes v = (tcp_of-reads src dst verified bytes v, reads-tcp_of src dst verified bytes (payload_of bytes) v)

-- bytes parse as at most one value
pub reads_once : (src dst : IpAddress) (verified : Bool) (bytes payload other_payload : List ℕ) (v w : TcpHeader)
    → Reads bytes src dst verified v payload → Reads bytes src dst verified w other_payload → (v ≡ w) × (payload ≡ other_payload)
reads_once src dst verified bytes payload other_payload v w r s =
    let same : Some v ≡ Some w = sym (reads-tcp_of src dst verified bytes payload v r) ∙ reads-tcp_of src dst verified bytes other_payload w s in
    (cc, r.body ∙ sym s.body)

none_read : (o : Option TcpHeader) → ((v : TcpHeader) → o ≡ Some v → ⊥) → o ≡ None
none_read o h = grind arith

-- the result of `parse` is the computed value, if there is one
pub answer-tcp_of : (src dst : IpAddress) (verified : Bool) (bytes : List ℕ) (answer : Result TcpRepr Error)
    → IfOk answer (λ v. Reads bytes src dst verified (header_of v) v.payload.now) → OnErr answer (HasNoReading bytes src dst verified)
    → tcp_of src dst verified bytes ≡ option_map header_of (result_ok answer)
answer-tcp_of src dst verified bytes (Ok v) ok err = reads-tcp_of src dst verified bytes v.payload.now (header_of v) ok
answer-tcp_of src dst verified bytes (Err e) ok err = none_read (tcp_of src dst verified bytes) (λ v is. err v (payload_of bytes) (tcp_of-reads src dst verified bytes v is))
