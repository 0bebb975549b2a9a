-- The words of a script.
use Rattle.std.specs.Prelude.{Bool, true, false, Option, Some, None, codes, cond, nat_eq}
use Rattle.std.specs.Cmp.Lexicographic.{pointwise}
use Rattle.text_fields.specs.Fields.{Text}
use Rattle.workload.specs.declared.word.Word.{Word}
use Rattle.workload.specs.declared.word.Word.TheVariants.{Register, Withdraw, Publish, Pull, Reweigh}
use Rattle.workload.specs.declared.word.End.{End}
use Rattle.workload.specs.declared.word.End.TheVariants.{Slot, Wait}

-- The field is this word.
abbrev pub is_word : Text → Text → Bool
is_word word field = pointwise nat_eq field word

-- What a command asks for, by its second field.
abbrev pub word_of : Text → Option Word
word_of field =
    cond (is_word (codes "register") field) (Some Register)
    (cond (is_word (codes "withdraw") field) (Some Withdraw)
    (cond (is_word (codes "publish") field) (Some Publish)
    (cond (is_word (codes "pull") field) (Some Pull)
    (cond (is_word (codes "reweigh") field) (Some Reweigh) None))))

-- How a round ends, by the only field of its last line.
abbrev pub end_of : Text → Option End
end_of field = cond (is_word (codes "slot") field) (Some Slot) (cond (is_word (codes "wait") field) (Some Wait) None)

-- Whether the commands of a round that ends so run beside slots.
abbrev pub runs_at : End → Bool
runs_at Slot = true
runs_at Wait = false
