use Rattle.std.proofs.Common.{ℕ, [], ◌∙◌, ◌≤◌, arith, inl, inr, length, rules, slice_range, subst, sym}
use Rattle.ip_wire.specs.Tcp.{HasLengths}
use Rattle.c_read.proofs.FrameOptions.{header-found}
use Rattle.c_read.specs.TcpOptions.{ReadsItems}
use Rattle.c_read.proofs.frame_options.read_frame_options.Goals as goal

pub returns-then-fields-code : goal.returns-then-fields-code
returns-then-fields-code c = record {
  stored = λ tcp. absurd (c.if-fields-code.true (tcp ∙ sym c.code.ensures));
  none = λ other. c.from_summary.ensures [] c.default.ensures;
}

pub slice_bounds-read_header-count : goal.slice_bounds-read_header-count
slice_bounds-read_header-count c =
    let tcp = c.if-fields-code.false ∙ c.code.ensures in
    let h = header-found c.args.frame.now c.args.fields.now (c.requires tcp) tcp in
    let ends = h.ends in
    omega (arith, ends)

pub slice_bounds-read_header-start : goal.slice_bounds-read_header-start
slice_bounds-read_header-start c =
    let f = c.args.fields.now in
    let tcp = c.if-fields-code.false ∙ c.code.ensures in
    let h = header-found c.args.frame.now f (c.requires tcp) tcp in
    let ends = h.ends in
    let order : f.transport_offset ≤ f.payload_offset = omega (arith, ends) in
    search rules

pub slice_bounds-read_header-end : goal.slice_bounds-read_header-end
slice_bounds-read_header-end c =
    let f = c.args.fields.now in
    let tcp = c.if-fields-code.false ∙ c.code.ensures in
    let h = header-found c.args.frame.now f (c.requires tcp) tcp in
    let room : f.payload_offset ≤ length c.args.frame.now = h.room in
    search rules

pub read_header-requires : goal.read_header-requires
read_header-requires c =
    let f = c.args.fields.now in
    let tcp = c.if-fields-code.false ∙ c.code.ensures in
    let h = header-found c.args.frame.now f (c.requires tcp) tcp in
    let lengths : HasLengths (slice_range c.args.frame.now f.transport_offset f.payload_offset) = rw h.ends h.reads.lengths in
    lengths

pub returns : goal.returns
returns c =
    let f = c.args.fields.now in
    let frame = c.args.frame.now in
    let tcp = c.if-fields-code.false ∙ c.code.ensures in
    let h = header-found frame f (c.requires tcp) tcp in
    elim c.read_header.ensures [
      | inl (one, (items, reads, stored)) ↦
          record { stored = λ e. (items, subst (λ (end : ℕ). ReadsItems (slice_range frame f.transport_offset end) items) h.ends reads, stored); none = λ other. absurd (other tcp) }
      | inr (zero, same, unread) ↦ absurd (unread h.items (subst (λ (end : ℕ). ReadsItems (slice_range frame f.transport_offset end) h.items) (sym h.ends) h.reads))
    ]
