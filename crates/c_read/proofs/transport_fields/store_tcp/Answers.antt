use Rattle.std.proofs.Common.{◌≡◌, ◌∙◌, nat_lt, if◌then◌else◌, Bool, false, Option, None, Some, length, length-drop, refl, sym, arith}
use Rattle.std.proofs.lemmas.Bool.Decides.{nat_tests}
use Rattle.std.specs.Option.{option_map_or}
use Rattle.ip_wire.specs.Tcp as tcp
use Rattle.ip_wire.specs.Tcp.{HasLengths}
use Rattle.ip_wire.specs.TcpRepr.{header_of, tcp_of}
use Rattle.net_base.proofs.Spelled.{AreBytes}
use Rattle.c_structs.specs.declared.types.FrameFields.{FrameFields}
use Rattle.c_read.proofs.TcpUsual.{usual-lengths, usual-read}
use Rattle.c_read.specs.FrameFields.{after_header, rejected_transport, tcp_fault, with_tcp_header}
use Rattle.c_read.proofs.transport_fields.store_tcp.Goals as goal

chosen-some : {A : Type 0} (b : Bool) (o : Option A) (a : A) (f g h : FrameFields) → b ≡ false → o ≡ Some a → (if b then f else option_map_or (λ v. g) o h) ≡ g
chosen-some b o a f g h e is = rw (e, is) refl

chosen-none : {A : Type 0} (b : Bool) (o : Option A) (f g h : FrameFields) → b ≡ false → o ≡ None → (if b then f else option_map_or (λ v. g) o h) ≡ h
chosen-none b o f g h e is = rw (e, is) refl

pub returns-then-is_usual-clause-value : goal.returns-then-is_usual-clause-value
returns-then-is_usual-clause-value c =
    let bytes = c.args.bytes.now in
    let src = c.args.src_addr.now in
    let dst = c.args.dst_addr.now in
    let are : AreBytes bytes = λ i. (c.type_inv.bytes i).fits in
    let next = with_tcp_header c.args.fields.now src dst bytes in
    let enough = c.if-bytes-lt-TCP_HEADER_LEN.false in
    let long : nat_lt (length bytes) 20 ≡ false = grind (arith, nat_tests, enough) in
    let (v, read) = usual-read src dst bytes are (omega (arith, enough)) (c.if-is_usual.ensures refl) in
    let made : c.step_after.new.fields ≡ after_header next (tcp.header_len bytes) (length (tcp.payload_of bytes)) =
    rw (c.step_after.ensures, c.store_tcp_header.ensures, c.from.ensures, c.header_len.ensures, c.payload.ensures, c.new_unchecked-packet.ensures) refl
    in
    made ∙ sym (chosen-some (nat_lt (length bytes) 20) (tcp_of src dst false bytes) v _ _ (rejected_transport next (tcp_fault bytes (length bytes))) long read)

pub returns-then-is_usual-clause-within : goal.returns-then-is_usual-clause-within
returns-then-is_usual-clause-within c =
    let bytes = c.args.bytes.now in
    let are : AreBytes bytes = λ i. (c.type_inv.bytes i).fits in
    let enough = c.if-bytes-lt-TCP_HEADER_LEN.false in
    let lengths : HasLengths bytes = usual-lengths bytes are (omega (arith, enough)) (c.if-is_usual.ensures refl) in
    let next = with_tcp_header c.args.fields.now c.args.src_addr.now c.args.dst_addr.now bytes in
    let made : c.step_after.new.fields ≡ after_header next (tcp.header_len bytes) (length (tcp.payload_of bytes)) =
    rw (c.step_after.ensures, c.store_tcp_header.ensures, c.from.ensures, c.header_len.ensures, c.payload.ensures, c.new_unchecked-packet.ensures) refl
    in
    let size = length-drop (tcp.header_len bytes) bytes in
    let whole = lengths.whole in
    rw made (omega (arith, size, whole))

pub returns-in-Ok-clause-value : goal.returns-in-Ok-clause-value
returns-in-Ok-clause-value c =
    let bytes = c.args.bytes.now in
    let src = c.args.src_addr.now in
    let dst = c.args.dst_addr.now in
    let next = with_tcp_header c.args.fields.now src dst bytes in
    let enough = c.if-bytes-lt-TCP_HEADER_LEN.false in
    let long : nat_lt (length bytes) 20 ≡ false = grind (arith, nat_tests, enough) in
    let read : tcp_of src dst false bytes ≡ Some (header_of c.in-Ok.field-0) = rw (c.new_unchecked-packet.ensures, c.ignored-caps.ensures) at c.in-Ok.ensures.value in
    let made : c.step_after-in-Ok.new.fields ≡ after_header next (tcp.header_len bytes) (length (tcp.payload_of bytes)) =
    rw (c.step_after-in-Ok.ensures, c.store_tcp_header.ensures, c.from-in-Ok.ensures, c.header_len-in-Ok.ensures, c.payload-in-Ok.ensures, c.new_unchecked-packet.ensures) refl
    in
    made ∙ sym (chosen-some (nat_lt (length bytes) 20) (tcp_of src dst false bytes) (header_of c.in-Ok.field-0) _ _ (rejected_transport next (tcp_fault bytes (length bytes))) long read)

pub returns-in-Err-clause-value : goal.returns-in-Err-clause-value
returns-in-Err-clause-value c =
    let bytes = c.args.bytes.now in
    let src = c.args.src_addr.now in
    let dst = c.args.dst_addr.now in
    let next = with_tcp_header c.args.fields.now src dst bytes in
    let enough = c.if-bytes-lt-TCP_HEADER_LEN.false in
    let long : nat_lt (length bytes) 20 ≡ false = grind (arith, nat_tests, enough) in
    let unread : tcp_of src dst false bytes ≡ None = rw (c.new_unchecked-packet.ensures, c.ignored-caps.ensures) at c.in-Err.ensures.value in
    let made : c.reject_transport.new.fields ≡ rejected_transport next (tcp_fault bytes (length bytes)) =
    rw (c.reject_transport.ensures, c.store_tcp_header.ensures, c.tcp_fault.ensures, c.new_unchecked-packet.ensures) refl
    in
    made ∙ sym (chosen-none (nat_lt (length bytes) 20) (tcp_of src dst false bytes) _ (after_header next (tcp.header_len bytes) (length (tcp.payload_of bytes))) _ long unread)
