use Rattle.std.proofs.Common.{arith}
use Rattle.std.proofs.lemmas.Grind.{common_steps}
use Rattle.ip_frames.specs.Output.{IsFirstBlocks}
use Rattle.ip_frames.proofs.Writing.{Writes-first_blocks, Writes-kept}
use Rattle.ip_frames.proofs.run.write_output.Goals as goal

pub returns-in_err-flush-in-Err-Memory-clause-begins : goal.returns-in_err-flush-in-Err-Memory-clause-begins
returns-in_err-flush-in-Err-Memory-clause-begins g c _ =
    let old = g.K.FrameSink.contents c.args.sink.now in
    let written = g.K.FrameSink.contents c.write_blocks.new.sink in
    let new = g.K.FrameSink.contents c.flush-in-Err-Memory.new.sink in
    let input = c.args.input.now in
    Writes-first_blocks old new input (Writes-kept old written new (IsFirstBlocks input)
    (c.in-Err-Memory.ensures.memory (grind (arith, common_steps, c.in-Err-Memory.field-0-is))) c.in_err-flush-in-Err-Memory.ensures.bytes)
