-- The code's head of a file, with each table cut to the places that it needs.
use Rattle.std.specs.Prelude.{◌+◌, take}
use Rattle.format.specs.Written.{map_of}
use Rattle.format.specs.Reading as format
use Rattle.reader.specs.declared.head.Head.{Head}

abbrev pub head_seen : Head → format.Head
head_seen h = record {
  map = map_of h.with_start h.with_faults;
  inputs = h.inputs;
  gates = h.gates;
  output = take h.outputs h.output;
  start = take (h.inputs + h.gates) h.start;
}
