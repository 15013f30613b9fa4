-- The number, the layer and the place with which each refusal is printed: the one table that every promise cites.
use Rattle.std.specs.Prelude.{ℕ, List, ◌++◌, codes, decimal}
use Rattle.refusal.specs.declared.FileFault.TheVariants.{Short, Range, Stray, Nowhere, Overlong}
use Rattle.refusal.specs.declared.CircuitFault.TheVariants.{File, Crowded, Restless}
use Rattle.refusal.specs.declared.GradingFault.{GradingFault}
use Rattle.refusal.specs.declared.GradingFault.TheVariants.{Circuit, Small, Input, Full, Oscillation, Race, Unknown, Narrow}

abbrev pub number_of : GradingFault → ℕ
number_of (Circuit (File (Short place))) = 1
number_of (Circuit (File (Range place))) = 2
number_of (Circuit (File (Stray place))) = 3
number_of (Circuit (File (Nowhere place))) = 4
number_of (Circuit (File (Overlong place))) = 5
number_of (Circuit (Crowded length)) = 6
number_of (Circuit (Restless line)) = 7
number_of (Small rows) = 8
number_of (Input bit) = 9
number_of Full = 10
number_of (Oscillation line) = 11
number_of (Race line) = 12
number_of (Unknown number) = 13
number_of (Narrow bytes) = 14

-- 1 the file, 2 the circuit, 3 the grading
abbrev pub layer_of : GradingFault → ℕ
layer_of (Circuit (File fault)) = 1
layer_of (Circuit (Crowded length)) = 2
layer_of (Circuit (Restless line)) = 2
layer_of (Small rows) = 3
layer_of (Input bit) = 3
layer_of Full = 3
layer_of (Oscillation line) = 3
layer_of (Race line) = 3
layer_of (Unknown number) = 3
layer_of (Narrow bytes) = 3

abbrev pub place_of : GradingFault → ℕ
place_of (Circuit (File (Short place))) = place
place_of (Circuit (File (Range place))) = place
place_of (Circuit (File (Stray place))) = place
place_of (Circuit (File (Nowhere place))) = place
place_of (Circuit (File (Overlong place))) = place
place_of (Circuit (Crowded length)) = length
place_of (Circuit (Restless line)) = line
place_of (Small rows) = rows
place_of (Input bit) = bit
place_of Full = 255
place_of (Oscillation line) = line
place_of (Race line) = line
place_of (Unknown number) = number
place_of (Narrow bytes) = bytes

-- the line that is printed, without its end
abbrev pub refusal_text : GradingFault → List ℕ
refusal_text fault = codes "refused " ++ (decimal (number_of fault) ++ (codes " layer " ++ (decimal (layer_of fault) ++ (codes " place " ++ decimal (place_of fault)))))
