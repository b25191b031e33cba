use Rattle.std.proofs.Common.{◌≡◌, ◌∙◌, None, Some, sym, ap}
use Rattle.std.specs.Prelude.{option_and_then}
use Rattle.lsp_texts.specs.Links.{declaration, declaration_at, name_number}
use Rattle.lsp_texts.specs.Declarations.{declarations}
use Rattle.lsp_texts.specs.Theory.Within.{is_within}
use Rattle.language_server.specs.NameHovers.{named, unnamed, untold}
use Rattle.language_server.proofs.name_hovers.name_hover.Goals as goal

pub returns-in_default-clause-told : goal.returns-in_default-clause-told
returns-in_default-clause-told c = untold (rw c.in_default.is at c.in_ok-tokens.ensures.found)

pub returns-in_default-name_number-clause-told : goal.returns-in_default-name_number-clause-told
unfolding declaration_at
returns-in_default-name_number-clause-told c =
    let tokens = c.in-Some.tokens.items in
    let has = rw c.in-Some.is at c.in_ok-tokens.ensures.found in
    let no_name = rw (c.as_bytes.ensures.value, c.deref.ensures.value) at (sym c.name_number.ensures ∙ c.in_default-name_number.is) in
    unnamed tokens has (ap (option_and_then (declaration tokens)) no_name)

pub returns-in_default-found_at-clause-told : goal.returns-in_default-found_at-clause-told
unfolding declaration_at
returns-in_default-found_at-clause-told c =
    let tokens = c.in-Some.tokens.items in
    let has = rw c.in-Some.is at c.in_ok-tokens.ensures.found in
    let name = rw (c.as_bytes.ensures.value, c.deref.ensures.value) at (sym c.name_number.ensures ∙ c.in-Some-name_number.is) in
    let found = rw (c.deref-3.ensures.value, c.in_ok-found.ensures, c.deref-2.ensures.value) at (sym c.found_at.ensures ∙ c.in_default-found_at.is) in
    unnamed tokens has (ap (option_and_then (declaration tokens)) name ∙ found)

pub invariant_of-name : goal.invariant_of-name
invariant_of-name c =
    let found = rw (c.deref-3.ensures.value, c.in_ok-found.ensures, c.deref-2.ensures.value) at (sym c.found_at.ensures ∙ c.in-Some-found_at.is) in
    record {
      are = c.deref-5.ensures.value ∙ c.in_ok-found.ensures ∙ ap declarations (c.deref-2.ensures.value ∙ sym c.deref-4.ensures.value);
      within = rw c.deref-4.ensures.value (is_within c.in-Some.tokens.items c.in-Some-name_number.at c.in-Some-found_at.declared found);
    }

pub returns-clause-told : goal.returns-clause-told
returns-clause-told c =
    let tokens = c.in-Some.tokens.items in
    let has = rw c.in-Some.is at c.in_ok-tokens.ensures.found in
    let name = rw (c.as_bytes.ensures.value, c.deref.ensures.value) at (sym c.name_number.ensures ∙ c.in-Some-name_number.is) in
    let found = rw (c.deref-3.ensures.value, c.in_ok-found.ensures, c.deref-2.ensures.value) at (sym c.found_at.ensures ∙ c.in-Some-found_at.is) in
    named tokens c.in-Some-name_number.at c.in-Some-found_at.declared has name found (rw c.deref-4.ensures.value at c.in_ok-told.ensures)
