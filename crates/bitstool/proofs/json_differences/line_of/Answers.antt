use Rattle.bitstool.proofs.json_differences.line_of.Goals as goal

pub returns-clause-fits : goal.returns-clause-fits
returns-clause-fits c =
    record {
      place = c.in_ok-push_place.ensures.fits;
      first_bit = c.push_what.ensures.fits.0;
      first = c.push_what.ensures.fits.1;
      second_bit = c.push_what-2.ensures.fits.0;
      second = c.push_what-2.ensures.fits.1;
      value = c.push_first_value.ensures.fits;
    }
