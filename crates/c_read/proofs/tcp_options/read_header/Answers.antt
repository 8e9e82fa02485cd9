use Rattle.std.proofs.Common.{ℕ, ◌≡◌, ◌∙◌, ◌+◌, List, [], ◌∷◌, ap, arith, inl, inr, refl, rules, slice_range, sym}
use Rattle.std.proofs.lemmas.Grind.{common_steps}
use Rattle.ip_wire.specs.Tcp.{HasLengths, options_of}
use Rattle.ip_wire.specs.TcpItems.{IsOptionList, Item, item}
use Rattle.ip_wire.specs.TcpSummary.{summary_of}
use Rattle.net_base.proofs.Cells.{cells-drop}
use Rattle.net_base.proofs.Spelled.{AreBytes}
use Rattle.c_structs.proofs.TcpKept.{eight, stamp-list}
use Rattle.c_structs.proofs.TcpStamped.{padded, padded-list}
use Rattle.c_read.specs.TcpOptions.{ReadsItems}
use Rattle.c_read.proofs.tcp_options.read_header.Goals as goal

pub returns-then-is_empty : goal.returns-then-is_empty
returns-then-is_empty c =
    let lengths : HasLengths c.args.header.now = c.requires in
    let options : c.options-list.result.now ≡ options_of c.args.header.now = search rules in
    let none : c.options-list.result.now ≡ [] = grind (arith, common_steps) in
    inl (refl, ([], record { lengths = lengths; tail = []; list = record { each = tt; joined = sym options ∙ none; ended = tt } }, c.from_summary.ensures [] c.default.ensures))

-- a header whose only option with a value is a timestamp at this place
stamped : (header tail : List ℕ) (items : List Item) (at : ℕ) → HasLengths header → IsOptionList (options_of header) items tail
    → slice_range header at (at + 8) ≡ eight header at → summary_of (item 8 (eight header at) ∷ []) ≡ summary_of items
    → ReadsItems header items × (summary_of (item 8 (slice_range header at (at + 8)) ∷ []) ≡ summary_of items)
stamped header tail items at lengths list part same =
    (record { lengths = lengths; tail = tail; list = list }, ap (λ (l : List ℕ). summary_of (item 8 l ∷ [])) part ∙ same)

pub returns-then-has_padded_stamp : goal.returns-then-has_padded_stamp
returns-then-has_padded_stamp c =
    let header = c.args.header.now in
    let are : AreBytes header = λ i. (c.type_inv.header i).fits in
    let stamp = c.if-has_padded_stamp.ensures refl in
    let whole = stamp.whole in
    let items = padded header in
    let (reads, same) = stamped header [] items 24 c.requires (padded-list header are stamp) (rw (cells-drop 32 header whole) refl) refl in
    inl (refl, (items, reads, c.from_summary-then-has_padded_stamp.ensures items (c.timestamp_in.ensures ∙ same)))

pub returns-then-has_stamp : goal.returns-then-has_stamp
returns-then-has_stamp c =
    let header = c.args.header.now in
    let are : AreBytes header = λ i. (c.type_inv.header i).fits in
    let stamp = c.if-has_stamp.ensures refl in
    let whole = stamp.whole in
    let items = item 8 (eight header 22) ∷ [] in
    let (reads, same) = stamped header (0 ∷ 0 ∷ []) items 22 c.requires (stamp-list header are stamp) (rw (cells-drop 32 header whole) refl) refl in
    inl (refl, (items, reads, c.from_summary-then-has_stamp.ensures items (c.timestamp_in-then-has_stamp.ensures ∙ same)))

pub returns : goal.returns
returns c =
    let lengths : HasLengths c.args.header.now = c.requires in
    let options : c.options-list.result.now ≡ options_of c.args.header.now = search rules in
    elim c.read_list.ensures [
      | inl (one, (items, (tail, list), stored)) ↦ inl (one, (items, record { lengths = lengths; tail = tail; list = rw options at list }, stored))
      | inr (none, same, unread) ↦ inr (none, same, λ items r. unread items (r.tail, rw (← options) at r.list))
    ]
