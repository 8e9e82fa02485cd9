use Rattle.app_nat.proofs.Calls.{kept-opens, kept-table, made-opens, made-table}
use Rattle.app_nat.proofs.table.open.Goals as goal

pub returns-in-Kept-clause-opened : goal.returns-in-Kept-clause-opened
returns-in-Kept-clause-opened c =
    simp (c.place-place.ensures, c.protocol-protocol.ensures) (kept-opens c.args.nat.now c.args.mappings.now c.args.now c.args.event c.args.inside.now c.args.remote.now c.in-Kept.port c.after_outbound.result _
    (simp c.protocol-protocol.ensures at c.in-Kept.ensures) (simp (c.place-place.ensures, c.protocol-protocol.ensures) at c.after_outbound.ensures))

pub returns-in-Kept-clause-keeps : goal.returns-in-Kept-clause-keeps
returns-in-Kept-clause-keeps c =
    simp (c.place-place.ensures, c.protocol-protocol.ensures) (kept-table c.args.nat.now c.args.mappings.now c.args.now c.args.event c.args.inside.now c.args.remote.now c.in-Kept.port c.after_outbound.result _
    (simp c.protocol-protocol.ensures at c.in-Kept.ensures.holds) (simp (c.place-place.ensures, c.protocol-protocol.ensures) at c.after_outbound.ensures))

pub returns-in-Made-clause-opened : goal.returns-in-Made-clause-opened
returns-in-Made-clause-opened c =
    simp (c.place-place-in-Made.ensures, c.protocol-protocol.ensures, c.note.ensures.noted) (made-opens c.args.nat.now c.args.mappings.now c.args.now c.args.event c.args.inside.now c.args.remote.now c.in-Made.port c.after_outbound-in-Made.result _
    (simp c.protocol-protocol.ensures at c.in-Made.ensures.0) (simp c.protocol-protocol.ensures at c.in-Made.ensures.1) (simp (c.new-new.ensures, c.note.ensures.noted, c.place-place-in-Made.ensures, c.protocol-protocol.ensures) at c.after_outbound-in-Made.ensures))

pub returns-in-Made-clause-keeps : goal.returns-in-Made-clause-keeps
returns-in-Made-clause-keeps c =
    simp (c.place-place-in-Made.ensures, c.protocol-protocol.ensures, c.note.ensures.noted) (made-table c.args.nat.now c.args.mappings.now c.args.now c.args.event c.args.inside.now c.args.remote.now c.in-Made.port c.after_outbound-in-Made.result _
    (simp c.protocol-protocol.ensures at c.in-Made.ensures.0) (simp c.protocol-protocol.ensures at c.in-Made.ensures.1) (simp (c.new-new.ensures, c.note.ensures.noted, c.place-place-in-Made.ensures, c.protocol-protocol.ensures) at c.after_outbound-in-Made.ensures))
