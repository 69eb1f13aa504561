-- C-15, "each answer the values of its listing line": a slot, seven numbers in the listing's order.
use Rattle.std.specs.Prelude.{Err, Ok, Result, cond, [], ◌∷◌, get_or, eqb}
use Rattle.rules.specs.Refusal.{bytes, refusal}
use Rattle.rules.specs.declared.refusal.Refusal.{Refusal}
use Rattle.records.specs.declared.record.Line.{Line}
use Rattle.days.specs.declared.slot.Slot.{Slot}

-- no refusal; "class, units of label, extension bytes, body bytes, section length"
unfoldable pub accepted_slot : Line → Slot
accepted_slot l =
    record {
      0 =
          0
          ∷ 0
          ∷ l.message_class
          ∷ l.label_length.0
          ∷ l.extension_size.0
          ∷ l.message_size.0
          ∷ l.section_length.0
          ∷ [];
    }

-- "refusal, place", and no value
unfoldable pub refused_slot : Refusal → Slot
refused_slot r = record { 0 = r.number ∷ r.place.0 ∷ 0 ∷ 0 ∷ 0 ∷ 0 ∷ 0 ∷ [] }

unfoldable pub slot_of : Result Line Refusal → Slot
slot_of (Ok l) = accepted_slot l
slot_of (Err r) = refused_slot r

-- the way back: the answer that a slot holds, accepted where the first value is 0
unfoldable pub answer_in : Slot → Result Line Refusal
answer_in slot =
    cond (eqb (get_or slot.0 0 0) 0)
    (Ok
    (record {
      message_class = get_or slot.0 2 0;
      label_length = record { 0 = get_or slot.0 3 0 };
      extension_size = bytes (get_or slot.0 4 0);
      message_size = bytes (get_or slot.0 5 0);
      section_length = bytes (get_or slot.0 6 0);
    }))
    (Err (refusal (get_or slot.0 0 0) (get_or slot.0 1 0)))
