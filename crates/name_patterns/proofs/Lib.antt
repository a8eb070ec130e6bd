mod Stars
