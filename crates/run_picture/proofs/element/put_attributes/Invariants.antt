use Rattle.std.proofs.Common.{◌≡◌, ◌++◌, take}
use Rattle.std.specs.Prelude.{string_bytes}
use Rattle.std.specs.List.{flat_map}
use Rattle.run_picture.specs.ElementTexts.{attribute_text}
use Rattle.run_picture.proofs.element.put_attributes.Given as goal

abbrev pub invariant-loop-attribute : goal.invariant-loop-attribute
invariant-loop-attribute l =
    string_bytes l.text ≡ string_bytes l.fn.text ++ flat_map attribute_text (take l.attribute-index l.attributes)
