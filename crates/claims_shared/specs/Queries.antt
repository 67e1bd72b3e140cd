-- Demand 1 of the papers for the query for shared counts, in their own words: which number refuses it, with which detail and in which order, and what it
-- answers otherwise. Rests on the checks of `Deciding`, and on `Left`, which says by the commands themselves what they leave.
use Rattle.std.specs.Prelude.{ℕ, ◌+◌, ◌*◌, ◌≤◌, ◌≡◌, ◌↔◌, ◌⊎◌, ◌&&◌, List, [], ◌∷◌, get_or}
use Rattle.refusal.specs.Table.{number_of, detail_of}
use Rattle.refusal.specs.declared.Refusal.{Refusal}
use Rattle.lists.specs.Finding.{count}
use Rattle.lists.specs.Masks.{in_mask}
use Rattle.claims_direct.specs.Deciding.{Check, naming, plain, Decides, AllSilent}
use Rattle.session_commands.specs.Commands.{Left}
use Rattle.session_record.specs.declared.Session.{Session}
use Rattle.shared_query.specs.Query.{Shared}
use Rattle.claims_streams.specs.CallDemand1.{NoSizeYet}
use Rattle.std.specs.Prelude.{Err, Ok}

module _ (s : Session) (first second : ℕ) where
  -- 5: "a session record handed in has sizes, a reference or mask bits that no accepted commands could leave", or "a false entry". 21: "before an accepted
  -- Size." "Refusal 12 for a camera outside the sizes, after 5 and 21; detail is first camera × 256 + second."
  abbrev pub query_checks : List Check
  query_checks =
      plain 5 (Left s → ⊥)
      ∷ plain 21 (NoSizeYet s)
      ∷ naming 12 (λ d. ((s.cameras ≤ first) ⊎ (s.cameras ≤ second)) × (d ≡ first * 256 + second))
      ∷ []

  -- What the demand asks of the query's answer.
  pub record QueryDemand1 (answer : Shared) : Type 0 where
    pub refused_exactly : (n d : ℕ) → ((q : Refusal) × (answer ≡ Err q) × (number_of q ≡ n) × (detail_of q ≡ d)) ↔ Decides query_checks n d
    -- "gives the entry for two camera bytes": how many views hold poses of both.
    pub counted_exactly : (n : ℕ) → (answer ≡ Ok n)
        ↔ (AllSilent query_checks × (n ≡ count (λ v. in_mask (get_or s.masks first 0) v && in_mask (get_or s.masks second 0) v) 64))
