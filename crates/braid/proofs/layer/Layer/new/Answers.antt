use Rattle.std.proofs.Common.{ℕ, List, replicate, ap}
use Rattle.braid.specs.declared.layer.Layer.{Layer}
use Rattle.braid.specs.Layers.{zeros}
use Rattle.braid.proofs.layer.Layer.new.Goals as goal

-- a layer of zeros with some rows
layer_of : ℕ → List (List ℕ) → Layer
layer_of depth rows = record {
  parts = replicate 1024 0;
  bits = replicate 1024 0;
  lows = replicate 1024 0;
  highs = replicate 1024 0;
  rows = rows;
  weight = 0;
  rounds = 0;
  depth = depth;
}

pub returns-clause-value : goal.returns-clause-value
unfolding zeros layer_of
returns-clause-value c = ap (layer_of c.args.depth) c.new.ensures
