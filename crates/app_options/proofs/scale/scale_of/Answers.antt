use Rattle.std.proofs.Common.{◌≡◌, ℕ, suc, ◌+◌, ◌-◌, ◌/◌, ◌^◌, ◌<◌, ◌≤◌, arith}
use Rattle.std.proofs.lemmas.Nat.{shr-shr}
use Rattle.app_options.specs.Windows.{halvings, scale_of}
use Rattle.app_options.proofs.Scales.{is_scale, large, small}
use Rattle.app_options.proofs.scale.scale_of.Goals as goal

-- one scale more
more : (s size : ℕ) → s < 14 → 65536 ≤ size / 2 ^ s →
    s + 1 + halvings (14 - (s + 1)) (size / 2 ^ (s + 1)) ≡ s + halvings (14 - s) (size / 2 ^ s)
more s size h g =
    let count : 14 - s ≡ suc (14 - (s + 1)) = omega arith in
    let half : size / 2 ^ s / 2 ≡ size / 2 ^ (s + 1) = shr-shr size s 1 in
    let step : halvings (suc (14 - (s + 1))) (size / 2 ^ s) ≡ 1 + halvings (14 - (s + 1)) (size / 2 ^ s / 2) = large _ _ g in
    rw (count, step, half) (omega arith)

pub loop-scale-preserved : goal.loop-scale-preserved
loop-scale-preserved c = record {
  small = omega arith;
  left = omega (arith, more c.loop-scale.scale c.args.size (omega arith) (omega arith), c.loop-scale.invariant.left);
}

pub returns-else-size-scale-clause-value : goal.returns-else-size-scale-clause-value
unfolding scale_of
returns-else-size-scale-clause-value c =
    let fits : c.args.size / 2 ^ c.loop-scale.scale < 65536 = omega arith in
    omega (arith, small (14 - c.loop-scale.scale) _ fits, c.loop-scale.invariant.left)

pub returns-after-loop-scale-clause-value : goal.returns-after-loop-scale-clause-value
unfolding scale_of halvings
returns-after-loop-scale-clause-value c =
    let end : 14 - c.loop-scale.scale ≡ 0 = omega arith in
    let left = rw end at c.loop-scale.invariant.left in
    omega (arith, left)

pub returns-else-size-scale-clause-scale : goal.returns-else-size-scale-clause-scale
returns-else-size-scale-clause-scale c = rw (returns-else-size-scale-clause-value c) (is_scale c.args.size)

pub returns-after-loop-scale-clause-scale : goal.returns-after-loop-scale-clause-scale
returns-after-loop-scale-clause-scale c = rw (returns-after-loop-scale-clause-value c) (is_scale c.args.size)
