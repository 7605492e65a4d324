-- Records whose stretches can be read.
use Rattle.std.specs.Prelude.{◌≤◌}
use Rattle.fields.specs.declared.Layout.{Layout}

-- eight bases are enough to read a word from any base on, and 32 bytes before the qualities to read 32 up to any quality
abbrev pub Wide : Layout → Type 0
Wide y = (8 ≤ y.count) × (32 ≤ y.qualities)
