use Rattle.std.proofs.Common.{suc, ◌≡◌, ◌≤◌, ◌-◌, ◌%◌, IfSome, length}
use Rattle.wire_extensions.specs.Chain.{chain_of, walked}
use Rattle.wire_extensions.proofs.chain.Chain.of.Given as goal

-- the rest of the chain ends where the whole chain does
abbrev pub invariant-loop : goal.invariant-loop
invariant-loop l = record {
  steps : walked (suc (l.end - l.counter)) l.len l.bytes l.chain ≡ chain_of l.protocol l.len l.bytes;
  within : l.chain.len ≤ length l.bytes;
  even : l.chain.len % 2 ≡ 0;
  part : IfSome l.chain.fragment (λ v. v.frag_offset ≤ 8191);
}
