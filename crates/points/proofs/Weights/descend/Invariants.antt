-- Each turn goes one level down.
use Rattle.points.specs.Points.{weights}
use Rattle.points.proofs.Loop.{Reached}
use Rattle.points.proofs.Weights.descend.Given as goal

abbrev pub invariant-loop : goal.invariant-loop
invariant-loop l = let w = l.fn.self in Reached (weights w.t w.l w.r) l.counter l.rest.t l.rest.l l.rest.r l.path
