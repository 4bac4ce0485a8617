use Rattle.std.proofs.Common.{◌≡◌, ℕ, ◌<◌, List, [], ◌∷◌, length, map, get_or, rules, ap, sym, ◌∙◌, arith}
use Rattle.std.specs.List.{flat_map}
use Rattle.std.proofs.lemmas.List.{same_lists, get_or-map, length-map}
use Rattle.condition.specs.declared.sha256.state.State.{State}
use Rattle.condition.specs.Sha256.{bytes_of, joined, output}
use Rattle.condition.proofs.sha256.state.bytes.Goals as goal

abbrev words : State → List ℕ
words s = s.a ∷ s.b ∷ s.c ∷ s.d ∷ s.e ∷ s.f ∷ s.g ∷ s.h ∷ []

mapped : (xs : List ℕ) (ys : List (List ℕ)) → length ys ≡ length xs → ((i : ℕ) (d : List ℕ) → i < length xs → get_or ys i d ≡ bytes_of (get_or xs i 0)) → ys ≡ map bytes_of xs
mapped xs ys long at =
    same_lists ys (map bytes_of xs) (long ∙ sym (length-map xs bytes_of))
    (λ k d h. let l : k < length xs = omega arith in at k d l ∙ sym (get_or-map bytes_of xs k 0 d l))

pub returns : goal.returns
unfolding joined output
returns c =
    let made = mapped (words c.args.s) c.map-words.result c.map-words.ensures.items.long (λ i d h. let (_, _, e) = c.map-words.ensures.items.at i 0 d h in search rules) in
    c.copy_from_slice.ensures.after ∙ c.as_flattened.ensures.value ∙ ap (flat_map (λ x. x)) made
