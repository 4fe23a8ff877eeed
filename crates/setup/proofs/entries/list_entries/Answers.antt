use Rattle.std.proofs.Common.{◌≡◌, cond, FitsSigned, None, [], ◌∷◌, ◌++◌, length, option_to_list, take, to_z, of_z, w64, sym, ap, ◌∙◌, arith, rules}
use Rattle.std.proofs.lemmas.Int.{ints}
use Rattle.std.proofs.lemmas.List.{length-take-le}
use Rattle.congruence.specs.Entries.{entry_for}
use Rattle.engine.specs.Meaning.{form_at, numbers_in}
use Rattle.model.specs.PickedEntries.{with_entries}
use Rattle.setup.proofs.Containing.{with_entry_told}
use Rattle.model.proofs.EntriesListed.{entries_few, entries_more}
use Rattle.setup.proofs.entries.list_entries.Goals as goal
use Rattle.setup.proofs.entries.list_entries.Goals.{in-Some+then-not-contains, in_default, in_default-via-in-None-1, in_default-via-in-Some+else-not-contains}

pub push-requires : goal.push-requires
push-requires c =
    let k = c.loop-index.index in
    let few = entries_few (take k c.args.terms.now) (numbers_in c.args.numbers.now) in
    (omega arith, omega (arith, ap length c.loop-index.invariant, length-take-le k c.args.terms.now))

pub loop-index-preserved : goal.loop-index-preserved
loop-index-preserved c =
    let ts = c.args.terms.now in
    let v = numbers_in c.args.numbers.now in
    let k = c.loop-index.index in
    let form = form_at ts k in
    let es = c.loop-index.entries.items in
    let fits : FitsSigned w64 (v k) = search rules in
    let number : to_z w64 (of_z w64 (v k)) ≡ v k = omega (arith, ints) in
    let listed : c.match-entry_for.entries.items ≡ with_entries es (option_to_list c.entry_for.result) =
    elim c.match-entry_for.branch [
      | in-Some+then-not-contains w ↦
          let e = w.in-Some.entry in
          let told = with_entry_told w.as_slice.result.now es e w.contains.result w.as_slice.ensures.value w.contains.ensures.cases in
          ap (λ x. x.items) w.entries-is ∙ w.push.ensures.items
          ∙ sym (ap (λ o. with_entries es (option_to_list o)) w.in-Some.is ∙ told ∙ ap (λ b. cond b es (es ++ e ∷ [])) w.if-not-contains.true)
      | in_default w ↦
          ap (λ x. x.items) w.entries-is
          ∙ elim w.in_default.branch [
            | in_default-via-in-None-1 u ↦ let none : c.entry_for.result ≡ None = search rules in sym (ap (λ o. with_entries es (option_to_list o)) none)
            | in_default-via-in-Some+else-not-contains u ↦
                let e = u.in-Some.entry in
                let told = with_entry_told u.as_slice.result.now es e u.contains.result u.as_slice.ensures.value u.contains.ensures.cases in
                sym (ap (λ o. with_entries es (option_to_list o)) u.in-Some.is ∙ told ∙ ap (λ b. cond b es (es ++ e ∷ [])) u.if-not-contains.false)
          ]
    ] in
    listed
    ∙ ap (with_entries es) (c.entry_for.ensures ∙ ap (λ r. entry_for v r form) number)
    ∙ ap (λ xs. with_entries xs (entry_for v (v k) form)) c.loop-index.invariant
    ∙ sym (entries_more ts v k c.loop-index-test.true)
